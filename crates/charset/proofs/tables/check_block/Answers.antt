use Rattle.charset.specs.Rule.{block_refusal}
use Rattle.charset.specs.Sets.{block_fits, mask_fits}
use Rattle.strlib.proofs.Answering.{answer_laws}
use Rattle.charset.proofs.tables.check_block.Goals as goal

pub returns-in_err-check : goal.returns-in_err-check
unfolding block_refusal block_fits mask_fits
returns-in_err-check c = search answer_laws

pub returns : goal.returns
unfolding block_refusal block_fits mask_fits
returns c = search answer_laws
