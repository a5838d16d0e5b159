use Rattle.buffer.proofs.Valuing.{value_laws}
use Rattle.buffer.proofs.append_value.Goals as goal

pub returns-in-Ok : goal.returns-in-Ok
returns-in-Ok c = search value_laws

pub returns-in-Err : goal.returns-in-Err
returns-in-Err c = search value_laws
