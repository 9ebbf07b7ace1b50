-- A lookup's reply, from the bytes of the part that it hands back.
use Rattle.std.specs.Prelude.{ℕ, ◌/◌, cond, eqb}
use Rattle.types.specs.declared.reply.Reply.{Reply}
use Rattle.types.specs.Values.{says}
use Rattle.rules.specs.Layout.{coord_entry_size}

-- found where the part has an element, and its length
unfoldable pub part_reply : ℕ → Reply
part_reply n = cond (eqb n 0) (says 0 0 0 0 0) (says 1 (n / coord_entry_size) 0 0 0)
