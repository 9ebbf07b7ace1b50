-- What closed examples are made of: addresses and paths, the six inserts, lists of calls on a fresh state, commands on coordrun's state.
-- Every definition that a call may need is unfolded here, once.
use Prim.Native.Nat.{ℕ, zero, suc}
use mathlib.Core.List.{List, [], ◌∷◌, ◌++◌, map}
use Rattle.std.specs.Prelude.{None, Some}
use mathlib.Core.Bool.{Bool}
use lib.ListN.{replicate, take}
use Rattle.types.specs.declared.coord.CoordEntry.{CoordEntry}
use Rattle.types.specs.declared.coord.Path.{Path}
use Rattle.types.specs.declared.node_addr.NodeAddr.{NodeAddr}
use Rattle.types.specs.Addresses.{addr_before, bytes_before, same_addr, same_bytes}
use Rattle.types.specs.Paths.{among, appended, as_written, contains, elements, empty_path, first_is, last_addr, path_weight, root_of, same_entries, same_entry, same_path, starts_at, zero_entry, path_places}
use Rattle.types.specs.declared.placed.Funding.{Funding}
use Rattle.types.specs.declared.placed.HintOutcome.{HintOutcome}
use Rattle.types.specs.declared.placed.Segment.{Segment}
use Rattle.types.specs.Values.{bit, covers, outcome_code, placed_reply, refuses, says, segment_code, source_of, stats_reply, tallied, verified_reply}
use Rattle.rules.specs.Records.{Row, State, entry_value, with_seq}
use Rattle.rules.specs.Rows.{at_place, change_row, find, in_main, insert_in_order, keep_rows, lower_of, lowest_stamp, next_index, stamp_before, total, with_only_rows, with_rows, without_row}
use Rattle.rules.specs.Sound.{all, ascends, leads, legal, row_sound, sound, sourced, weighed}
use Rattle.rules.specs.Entries.{add_times, drop_mtu, expired, mark_hint, mark_verified, new_entry, refresh, set_mtu, update, verified}
use Rattle.rules.specs.Room.{at_new_place, choose_victims, evict_below, file_new, has_room, main_visits, make_probation_room, make_room, next_victim, park, parked_at, probation_visits, put_back, raised, refile, refiled, restamp, return_lapsed, room_can_be_made, seek, set_aside, settled, sought, stale, stamp, take_out, take_up, untouched, verified_in_main}
use Rattle.rules.specs.Placement
use Rattle.rules.specs.Placement.{grow, held_outcome, new_in_probation, new_without_room, place_held, place_hint, place_main, place_new, place_probation, place_result, promote, rejected, stays_verified, verified_entry, without_key}
use Rattle.rules.specs.Lookups.{clear_path_mtu, demoted, get, holds, matching, removed_entry, rewrite, sweep, touched, unexpired_row, with_entry}
use Rattle.rules.specs.Statistics.{mean, next_expiry, stats, total_age}
use Rattle.rules.specs.Calls.{Answer, Call, Hinted, Insert, InsertFunded, InsertStated, InsertVerified, InsertVerifiedWithPathMtu, InsertWithTtl, PathFound, VerifiedDone, charge_of, draws_stamps, examined_of, funding_of, key_named, path_given, sweep_matches, time_given, verified_write, was_refused}
use Rattle.rules.specs.Refusals.{bad_path, bad_size, first_given, fresh, gives, hinted, key_in_main, no_place_for, perform, perform_request, reason, reasons, refusal, seq_spent, serve, sweeps, verifies}
use Rattle.rules.specs.Lists.{run}
use Rattle.rules.specs.Memory.{coord_entry_of, le_number}
use Rattle.rules.specs.Commands.{Line, after_six, code, code_of, codes, coordrun, decimal, decimal_digits, decode_in, funded, hex_digit, line, line_text, lines_text, obey, obeyed, pended, read_as, refused_six, reply, run_commands, spaced, takes_path, tally_after}

-- an address of sixteen bytes n
unfoldable pub addr : ℕ → NodeAddr
addr n = record { 0 = replicate 16 n }

-- n elements from the address of a on; the others' addresses are those of 90
unfoldable pub elements_from : ℕ → ℕ → List CoordEntry
elements_from a zero = []
elements_from a (suc n) = record { node_addr = addr a; sequence = 0; timestamp = 0 } ∷ replicate n (record { node_addr = addr 90; sequence = 0; timestamp = 0 })

unfoldable pub path_from : ℕ → ℕ → Path
path_from a n = record { entries = take path_places (elements_from a n ++ replicate path_places zero_entry); len = n }

-- a path of n elements that starts at no key of the examples
unfoldable pub path : ℕ → Path
path n = path_from 90 n

-- ---- keys and answers

abbrev pub A : NodeAddr
A = addr 1

abbrev pub B : NodeAddr
B = addr 2

abbrev pub C : NodeAddr
C = addr 3

abbrev pub D : NodeAddr
D = addr 4

abbrev pub hint : HintOutcome → ℕ → Segment → Bool → ℕ → Answer
hint o a g u n = Hinted (record { outcome = o; added_weight = a; segment = g; unfunded = u; examined = n })

abbrev pub done : ℕ → ℕ → Answer
done w n = VerifiedDone (record { weight = w; examined = n })

abbrev pub found : ℕ → Answer
found n = PathFound (Some (elements_from 90 n))

abbrev pub missing : Answer
missing = PathFound None

-- ---- the six inserts

abbrev pub insert : NodeAddr → Path → ℕ → Call
insert k p t = Insert k p t

abbrev pub insert_with_ttl : NodeAddr → Path → ℕ → ℕ → Call
insert_with_ttl k p t l = InsertWithTtl k p t l

abbrev pub insert_funded : NodeAddr → Path → ℕ → Funding → Call
insert_funded k p t f = InsertFunded k p t f

abbrev pub insert_stated : NodeAddr → Path → ℕ → Funding → Call
insert_stated k p t f = InsertStated k p t f

abbrev pub insert_verified : NodeAddr → Path → ℕ → Call
insert_verified k p t = InsertVerified k p t

abbrev pub insert_verified_with_path_mtu : NodeAddr → Path → ℕ → ℕ → Call
insert_verified_with_path_mtu k p t m = InsertVerifiedWithPathMtu k p t m

-- ---- what is seen

-- a row in numbers: key, length, created_at, last_used, expires_at, MTU mark and value, source, verified_until, place, stamp, weight
unfoldable pub row_numbers : Row → List ℕ
row_numbers r = first_byte r.key.0 ∷ r.entry.path.len ∷ r.entry.created_at ∷ r.entry.last_used ∷ r.entry.expires_at ∷ r.entry.mtu_mark ∷ r.entry.mtu ∷ r.entry.source ∷ r.entry.verified_until ∷ r.place ∷ r.stamp_first ∷ r.stamp_seq ∷ r.weight ∷ []
  where
    first_byte : List ℕ → ℕ
    first_byte [] = 0
    first_byte (b ∷ bs) = b

-- what is seen of a list of calls: its answers, and the state after it in numbers
pub record Seen : Type 0 where
  pub answers : List Answer
  pub rows : List (List ℕ)
  pub seq : ℕ
  pub stored_weight : ℕ

unfoldable pub seen_from : ℕ → State → List Call → Seen
unfolding addr elements_from path_from path row_numbers same_bytes bytes_before same_addr addr_before zero_entry elements as_written same_entry same_entries same_path among contains last_addr root_of first_is starts_at path_weight covers source_of entry_value at_place in_main stamp_before next_index find lower_of lowest_stamp change_row without_row keep_rows insert_in_order total with_seq with_rows with_only_rows leads ascends all legal weighed sourced row_sound sound add_times expired verified update new_entry refresh mark_verified mark_hint set_mtu drop_mtu refiled parked_at raised stamp refile restamp park file_new take_out take_up untouched stale main_visits return_lapsed sought seek next_victim has_room at_new_place set_aside choose_victims put_back settled make_room verified_in_main room_can_be_made probation_visits evict_below make_probation_room place_result rejected new_in_probation new_without_room place_new held_outcome stays_verified place_probation promote place_main grow place_held place_hint without_key verified_entry Placement.insert_verified unexpired_row get with_entry rewrite touched removed_entry demoted holds clear_path_mtu sweep matching total_age mean stats next_expiry key_named path_given time_given funding_of draws_stamps verified_write sweep_matches was_refused charge_of examined_of bad_size bad_path seq_spent key_in_main no_place_for reason reasons first_given refusal gives hinted verifies sweeps perform fresh perform_request serve run
seen_from R s qs = let r = run R s qs in record { answers = map (λ e. e.answer) r.events; rows = map row_numbers r.state.rows; seq = r.state.seq; stored_weight = r.state.stored_weight }

-- on a fresh state of R rows, with these limits
unfoldable pub seen : ℕ → ℕ → ℕ → List Call → Seen
unfolding seen_from
seen R m ttl qs = seen_from R (fresh R m ttl []) qs

unfoldable pub answers_of : ℕ → ℕ → ℕ → List Call → List Answer
unfolding seen
answers_of R m ttl qs = (seen R m ttl qs).answers

-- coordrun's lines
unfoldable pub lines_of : List ℕ → List Line
unfolding seen_from tallied tally_after empty_path appended outcome_code segment_code bit says refuses placed_reply verified_reply stats_reply le_number coord_entry_of reply code funded read_as codes code_of decode_in obeyed pended obey takes_path after_six refused_six line run_commands coordrun hex_digit decimal_digits decimal spaced line_text lines_text
lines_of bs = coordrun bs
