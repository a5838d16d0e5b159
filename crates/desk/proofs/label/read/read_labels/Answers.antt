use Rattle.strlib.proofs.Answering.{err_is}
use Rattle.std.proofs.Common.{rules, sym, ◌≡◌}
use Rattle.strlib.specs.Refusal.{refusal_number, number_found}
use Rattle.desk.proofs.Refused.{put_err, put_ok}
use Rattle.desk.proofs.LabelReading.{read_laws, read_more}
use Rattle.desk.proofs.label.read.read_labels.Goals as goal

pub loop-offset-init : goal.loop-offset-init
loop-offset-init c = search read_laws

pub mark_of-mark-requires : goal.mark_of-mark-requires
mark_of-mark-requires c = search read_laws

pub bounds-met-mark : goal.bounds-met-mark
bounds-met-mark c = search read_laws

pub returns-then-met-mark : goal.returns-then-met-mark
returns-then-met-mark c = search read_laws

pub bounds-met-mark-in-loop-offset : goal.bounds-met-mark-in-loop-offset
bounds-met-mark-in-loop-offset c = search read_laws

pub overflow_add-offset : goal.overflow_add-offset
overflow_add-offset c = search read_laws

pub loop-offset-smaller : goal.loop-offset-smaller
loop-offset-smaller c = search read_laws

pub loop-offset-preserved : goal.loop-offset-preserved
loop-offset-preserved c =
    let z : 0 ≡ number_found c.check_body.result = put_ok _ _ c.loop-offset.offset c.map_err.ensures.cases (λ e f k. search rules) _ c.in_ok-map_err.was in (
      read_more c.args.list.now c.loop-offset.n c.loop-offset.offset c.loop-offset.invariant.0 _ c.rest_of-rest.ensures _ c.check_body.ensures (sym z) _ _ c.kind_of-kind.ensures c.number_of.ensures
          _ c.mark_of-mark.ensures _ c.loop-offset.invariant.1 (search rules) _ c.size_of.ensures,
      search read_laws,
    )

pub returns : goal.returns
returns c = search read_laws

pub returns-in_err-map_err : goal.returns-in_err-map_err
returns-in_err-map_err c =
    let m : (refusal_number c.in_err-map_err.field-0.0.refusal ≡ number_found c.check_body.result) × (c.in_err-map_err.field-0.0.offset ≡ c.loop-offset.offset) = put_err _ _ c.loop-offset.offset c.map_err.ensures.cases (λ e f k. search rules) c.in_err-map_err.field-0.0 c.in_err-map_err.was in
    rw (err_is _ _ c.from_residual.ensures.1, m.0, m.1) (search read_laws)
