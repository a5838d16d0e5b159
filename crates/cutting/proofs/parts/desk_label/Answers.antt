use Rattle.cutting.proofs.Slicing.{label_laws}
use Rattle.cutting.proofs.parts.desk_label.Goals as goal

pub part-requires : goal.part-requires
part-requires c = search label_laws

pub part-requires-in-House : goal.part-requires-in-House
part-requires-in-House c = search label_laws

pub returns-in-Production : goal.returns-in-Production
returns-in-Production c = search label_laws

pub returns-in-House : goal.returns-in-House
returns-in-House c = search label_laws
