-- An entry by value, as an entry of the state.
use Rattle.rules.specs.Records.{Entry, whole_entry}
use Rattle.entries.specs.declared.new_entry.NewEntry.{NewEntry}

-- every field; the path as a row holds it
unfoldable pub entry_from : NewEntry → Entry
entry_from e = whole_entry e.path e.created_at e.last_used e.expires_at e.mtu_mark e.mtu e.source e.verified_until
