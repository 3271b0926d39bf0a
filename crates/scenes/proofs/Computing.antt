-- What computes on a table that is written out: a proof that says `unfolding computing` sees the definitions of the calls and of what they
-- do to entries and records, and one that says `unfolding soundness` when a table is sound. Assumes nothing.
use Rattle.words.specs.Conditions.{all_of}
use Rattle.words.specs.Words.{within}
use Rattle.words.specs.Below.{positions, every_below, any_below, count_below, first_below, kept_below, or_else}
use Rattle.slots.specs.Slots.{first_key, count_keys, keys_sound, lengths_sound, overlay, put_slot, copy_slot, laid, scenes_inside}
use Rattle.records.specs.Records.{records_sound, first_owned, remember_at, remember, in_scope, any_hit, map_first, invalidated}
use Rattle.requests.specs.Requests.{or_next, first_refusal, member_gate, pairs_gate, add_gate, store_gate, lookup_gate, group_gate, copy_gate}
use Rattle.state.specs.Table.{entries_in, records_in}
use Rattle.state.specs.Sound.{in_bounds, sound}
use Rattle.state.specs.Capacity.{room_for, remaining, places_for}
use Rattle.state.specs.Current.{remember_current, invalidate_current}
use Rattle.state.specs.Change.{put_at, append, upsert_at, upsert, swap_remove}
use Rattle.state.specs.Answer.{refusal_of, guarded}
use Rattle.commands.specs.Commands.{add_scene, stored, store_captured, store_scene, remove_found, remove_scene, recall_found, recall_scene}
use Rattle.copies.specs.Copy.{copy_to, copy_entry, copy_found, copy_single, copy_walk, copy_sources, copied, copy_scenes_inner, copy_scene}
use Rattle.reads.specs.Reads.{read_at, recall_lookup, view_scene, field_bytes, list_ids, get_scene_membership}

unfoldable pub soundness : Unit {0}
unfolding sound in_bounds all_of keys_sound lengths_sound records_sound every_below
soundness = tt

gates : Unit {0}
unfolding guarded refusal_of first_refusal or_next member_gate pairs_gate add_gate store_gate lookup_gate group_gate copy_gate
gates = tt

entries : Unit {0}
unfolding first_key first_below or_else count_keys count_below within room_for remaining places_for append put_at put_slot overlay
    swap_remove copy_slot laid scenes_inside kept_below
entries = tt

records : Unit {0}
unfolding first_owned remember_current remember remember_at invalidate_current invalidated map_first any_hit any_below in_scope
records = tt

commands : Unit {0}
unfolding add_scene upsert upsert_at store_scene store_captured stored remove_scene remove_found recall_scene recall_found
    copy_scene copy_scenes_inner copied copy_sources copy_single copy_found copy_walk copy_entry copy_to
commands = tt

reads : Unit {0}
unfolding view_scene recall_lookup read_at field_bytes get_scene_membership list_ids
reads = tt

unfoldable pub computing : Unit {0}
unfolding soundness gates entries records commands reads entries_in records_in positions
computing = tt
