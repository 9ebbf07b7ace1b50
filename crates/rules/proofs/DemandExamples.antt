-- Closed examples of the third demand's terms: which events must spare a verified entry, and funding.
use Prim.Native.Nat.{ℕ}
use mathlib.Core.Path.{◌≡◌, refl}
use mathlib.Core.List.{[], ◌∷◌, map}
use mathlib.Core.Bool.{Bool, true, false}
use lib.ListN.{replicate}
use Rattle.types.specs.declared.placed.Funding.TheVariants.{Uncharged, Upto}
use Rattle.types.specs.declared.placed.HintOutcome.TheVariants.{Inserted}
use Rattle.types.specs.declared.placed.Segment.TheVariants.{Main}
use Rattle.rules.specs.Calls.{Call, Clear, ClearPathMtu, Demote, Done, Get, GetAndTouch, InvalidateOtherRoots, InvalidateViaNode, NextExpiry, PurgeExpired, Refused, Remove, Stats, VerifiedWrite}
use Rattle.rules.specs.Demand.{expiry_of, must_spare, names_other, not_past, verified_until_of, within_funding}
use Rattle.rules.proofs.Compute.{A, B, addr, hint, insert, insert_funded, insert_stated, insert_verified, insert_verified_with_path_mtu, insert_with_ttl, path, seen_from}

-- ---- what must spare a verified entry: A, verified at 0 with a path of 90

sure : VerifiedWrite
sure = record { key = A; path = path 1; time = 0 }

spares : ℕ → Call → Bool
unfolding seen_from must_spare names_other not_past verified_until_of expiry_of
spares ttl q = must_spare ttl sure (record { call = q; answer = Done })

-- ttl 10, so it expires after 10
spared_by : map (spares 10) (insert B (path 1) 300000 ∷ insert_with_ttl B (path 1) 0 0 ∷ insert_funded B (path 1) 1 Uncharged ∷ insert_stated B (path 1) 2 (Upto 9) ∷ insert_verified B (path 1) 300000 ∷ insert_verified_with_path_mtu B (path 1) 3 4 ∷ Get B 300000 ∷ GetAndTouch B 5 ∷ Remove B ∷ Demote B ∷ ClearPathMtu B ∷ PurgeExpired 10 ∷ InvalidateViaNode A ∷ InvalidateOtherRoots (addr 90) ∷ Stats 300000 ∷ NextExpiry ∷ [])
    ≡ replicate 16 true
unfolding spares sure
spared_by = refl

not_spared_by : map (spares 10) (insert B (path 1) 300001 ∷ insert_verified B (path 1) 300001 ∷ Get B 300001 ∷ GetAndTouch B 300001 ∷ PurgeExpired 300001 ∷ Stats 300001 ∷ insert A (path 1) 0 ∷ Get A 0 ∷ GetAndTouch A 0 ∷ Remove A ∷ Demote A ∷ ClearPathMtu A ∷ PurgeExpired 11 ∷ Clear ∷ InvalidateViaNode (addr 90) ∷ InvalidateOtherRoots A ∷ [])
    ≡ replicate 16 false
unfolding spares sure
not_spared_by = refl

-- a purge past verified_until ends the protection by its time, though it matches nothing
purge_past_until : map (spares 400000) (PurgeExpired 300000 ∷ PurgeExpired 300001 ∷ []) ≡ true ∷ false ∷ []
unfolding spares sure
purge_past_until = refl

refused_spares : must_spare 10 sure (record { call = Remove A; answer = Refused 1 }) ≡ true
unfolding seen_from sure must_spare names_other not_past verified_until_of expiry_of
refused_spares = refl

-- ---- funding

-- no hint is charged above its funding: Upto(n) and a charge over n
within_funding_lem : map (λ q. within_funding (record { call = q; answer = hint Inserted 16 Main false 0 })) (insert A (path 1) 0 ∷ insert_with_ttl A (path 1) 0 1 ∷ insert_funded A (path 1) 0 (Upto 16) ∷ insert_funded A (path 1) 0 (Upto 15) ∷ insert_stated A (path 1) 0 (Upto 16) ∷ insert_stated A (path 1) 0 (Upto 15) ∷ insert_stated A (path 1) 0 Uncharged ∷ []) ≡ true ∷ true ∷ true ∷ false ∷ true ∷ false ∷ true ∷ []
unfolding seen_from within_funding
within_funding_lem = refl
