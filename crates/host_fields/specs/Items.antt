-- What the reader yields, as numbers that a host in C reads: document 02, Q-2. The kinds are 0, done; 1, a cluster; 2, an attribute of the
-- cluster that came last; 3, the bytes are no list of sets.
use Rattle.std.specs.Prelude.{ℕ}
use Rattle.field_sets.specs.declared.reader.Cursor.{Cursor}
use Rattle.field_sets.specs.declared.reader.Item.{Item}
use Rattle.field_sets.specs.declared.reader.Item.TheVariants.{Cluster, Attribute, Done, Refused}
use Rattle.host_fields.specs.declared.FieldItem.{FieldItem}

abbrev pub done_kind : ℕ
done_kind = 0

abbrev pub cluster_kind : ℕ
cluster_kind = 1

abbrev pub attribute_kind : ℕ
attribute_kind = 2

abbrev pub refused_kind : ℕ
refused_kind = 3

abbrev pub field_item : ℕ → ℕ → Cursor → FieldItem
field_item kind number cursor = record { kind = kind; number = number; cursor = cursor }

-- without a number the cursor is the one that was asked for
abbrev pub item_numbers : Cursor → Item → FieldItem
item_numbers c (Cluster v next) = field_item cluster_kind v next
item_numbers c (Attribute v next) = field_item attribute_kind v next
item_numbers c Done = field_item done_kind 0 c
item_numbers c Refused = field_item refused_kind 0 c
