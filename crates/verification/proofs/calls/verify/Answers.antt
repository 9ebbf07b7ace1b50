-- 2 and 3 are write_refusal's and 4 is no_place_for's; where none is given the call is done, and file_verified leaves its state.
use Rattle.rules.proofs.MemoryLaws.{all_bytes}
use Rattle.refusals.proofs.SoundCalls.{searchable}
use Rattle.refusals.proofs.WriteRefusals.{passed}
use Rattle.verification.proofs.VerifiedCalls.{Underway, refused_early, insert_done}
use Rattle.verification.proofs.calls.verify.Goals as goal

pub returns-in_err-write_refusal : goal.returns-in_err-write_refusal
returns-in_err-write_refusal c = refused_early c.args.key _ c.args.time c.args.mtu _ _ c.requires c.write_refusal.ensures (c.in_err-write_refusal.was {u = tt}) c.from_residual.ensures.1

pub search-at-requires : goal.search-at-requires
search-at-requires c = searchable _ _ c.requires c.row_count-n.ensures

pub returns : goal.returns
returns c =
    let underway : (Underway c.args.key c.args.path c.args.time c.row_count-n.result c.no_place_for.result c.args.state.now) = record {
      sound = c.requires;
      passed = passed _ _ c.write_refusal.ensures (c.in_ok-write_refusal.was);
      counted = c.row_count-n.ensures;
      full = c.no_place_for.ensures;
    } in
    let r = c.file_verified in
    insert_done underway c.args.mtu _ _ c.if-no_place_for.false
    (all_bytes r.new.state (λ j. (c.slice_known-2-1.given j).fits)) r.auto.state r.ensures
