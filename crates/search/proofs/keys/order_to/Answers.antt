-- The first eight bytes decide, and where they are the same the last eight do.
use native.Mathlib.Omega.{arith}
use Rattle.search.proofs.KeyBytes.{high_less, high_greater, low_less, low_greater, low_equal}
use Rattle.search.proofs.keys.order_to.Goals as goal

pub returns-then-high-key_high : goal.returns-then-high-key_high
returns-then-high-key_high c = high_less _ c.bytes-held.ensures.row c.args.key (omega arith) (omega arith) c.be_u64-high.ensures c.be_u64-key_high.ensures c.if-high-key_high.true

pub returns-then-key_high-high : goal.returns-then-key_high-high
returns-then-key_high-high c = high_greater _ c.bytes-held.ensures.row c.args.key (omega arith) (omega arith) c.be_u64-high.ensures c.be_u64-key_high.ensures c.if-key_high-high.true

pub returns-then-low-key_low : goal.returns-then-low-key_low
returns-then-low-key_low c = low_less _ c.bytes-held.ensures.row c.args.key (omega arith) (omega arith) c.be_u64-high.ensures c.be_u64-key_high.ensures c.if-high-key_high.false c.if-key_high-high.false c.be_u64-low.ensures c.be_u64-key_low.ensures c.if-low-key_low.true

pub returns-then-key_low-low : goal.returns-then-key_low-low
returns-then-key_low-low c = low_greater _ c.bytes-held.ensures.row c.args.key (omega arith) (omega arith) c.be_u64-high.ensures c.be_u64-key_high.ensures c.if-high-key_high.false c.if-key_high-high.false c.be_u64-low.ensures c.be_u64-key_low.ensures c.if-key_low-low.true

pub returns : goal.returns
returns c = low_equal _ c.bytes-held.ensures.row c.args.key (omega arith) (omega arith) c.be_u64-high.ensures c.be_u64-key_high.ensures c.if-high-key_high.false c.if-key_high-high.false c.be_u64-low.ensures c.be_u64-key_low.ensures c.if-low-key_low.false c.if-key_low-low.false
