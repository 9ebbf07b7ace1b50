-- Where refusal 5 does not apply, the memory has the rows that make_fresh writes.
use mathlib.Core.Bool.{true}
use mathlib.Core.Path.{sym}
use Rattle.rules.proofs.MemoryLaws.{all_bytes}
use Rattle.rules.proofs.Public.{fresh_is_done}
use Rattle.state.proofs.FreshSizes.{rows_there, size_said}
use Rattle.state.proofs.fresh.fresh.Goals as goal

pub make_fresh-requires : goal.make_fresh-requires
make_fresh-requires c =
    let h = size_said c.args.state.now c.args.max c.rows_that_fit-rows.result c.head_is_sound.result true c.rows_that_fit-rows.ensures c.head_is_sound.ensures c.if-not-head_is_sound.false in
    rw c.rows_that_fit-rows.ensures (rows_there c.args.state.now c.args.max h)

pub returns : goal.returns
returns c =
    let h = size_said c.args.state.now c.args.max c.rows_that_fit-rows.result c.head_is_sound.result true c.rows_that_fit-rows.ensures c.head_is_sound.ensures c.if-not-head_is_sound.false in
    let f = fresh_is_done c.args.state.now c.args.max c.args.ttl c.make_fresh.new.state (all_bytes c.make_fresh.new.state (λ i. (c.slice_known-2-1.given i).fits)) c.make_fresh.auto.state h (rw c.rows_that_fit-rows.ensures at c.make_fresh.ensures) in
    (sym f.answer, sym f.memory)
