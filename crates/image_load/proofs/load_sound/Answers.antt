-- `image_load::load_sound` meets its contract. Assumes nothing.
use Prim.Native.Nat.{ℕ}
use mathlib.Core.Path.{refl, ◌≡◌, sym, ◌∙◌}
use mathlib.Core.List.{List}
use native.Mathlib.Omega.{arith}
use Rattle.words.proofs.Refusals.{refusal-number}
use Rattle.slots.specs.Slots.{Slots, slots_of}
use Rattle.state.specs.Table.{Table, table_of}
use Rattle.state.proofs.Laws.{sound_bounds, sound-room}
use Rattle.std.proofs.Common.{Some}
use Rattle.image_reader.specs.Image.{arrays_in}
use Rattle.image_load.specs.Loading.{load_tlv, load_image}
use Rattle.image_load.proofs.Loads.{by_length, load-unread, load-refused, load-passed, load-done}
use Rattle.image_load.proofs.load_sound.Goals as goal

pub returns-then-image-eq0 : goal.returns-then-image-eq0
returns-then-image-eq0 c =
    let came : Table = table_of c.args.state c.args.keys.now c.args.times.now c.args.fields.now c.args.records.now in
    let image : List ℕ = c.args.image.now in
    c.startup.ensures ∙ sym (by_length.no_bytes image came (omega (arith, c.if-image-eq0.true)))

pub returns-in_default : goal.returns-in_default
returns-in_default c =
    let came : Table = table_of c.args.state c.args.keys.now c.args.times.now c.args.fields.now c.args.records.now in
    let image : List ℕ = c.args.image.now in
    let encoded : load_tlv image came ≡ load_image image came = sym (by_length.some_bytes _ _ (omega (arith, c.if-image-eq0.false))) in
    load-unread came _ c.requires (sym c.arrays_in.ensures ∙ c.in_default.is) _ c.refused_by.ensures
    ∙ encoded

pub image_gate-requires : goal.image_gate-requires
image_gate-requires c =
    let came : Table = table_of c.args.state c.args.keys.now c.args.times.now c.args.fields.now c.args.records.now in
    (sound_bounds came c.requires).most

pub returns-in-Err : goal.returns-in-Err
returns-in-Err c =
    let came : Table = table_of c.args.state c.args.keys.now c.args.times.now c.args.fields.now c.args.records.now in
    let image : List ℕ = c.args.image.now in
    let encoded : load_tlv image came ≡ load_image image came = sym (by_length.some_bytes _ _ (omega (arith, c.if-image-eq0.false))) in
    let arrays : arrays_in image ≡ Some c.in-Some.arrays = sym c.arrays_in.ensures ∙ c.in-Some.is in
    load-refused came _ c.requires _ _ arrays _ c.in-Err.ensures (refusal-number _) _ c.refused_by-in-Err.ensures
    ∙ encoded

pub restore-loaded-requires : goal.restore-loaded-requires
restore-loaded-requires c =
    let came : Table = table_of c.args.state c.args.keys.now c.args.times.now c.args.fields.now c.args.records.now in
    let image : List ℕ = c.args.image.now in
    let arrays : arrays_in image ≡ Some c.in-Some.arrays = sym c.arrays_in.ensures ∙ c.in-Some.is in
    let p = load-passed came _ c.requires _ _ arrays _ c.in_default-image_gate.ensures refl in
    record { room = sound-room came c.requires; first_value = p.entries-read; first_len_bound = p.entries_few; second_value = p.records-read; second_len_bound = p.records_few }

pub returns : goal.returns
returns c =
    let came : Table = table_of c.args.state c.args.keys.now c.args.times.now c.args.fields.now c.args.records.now in
    let image : List ℕ = c.args.image.now in
    let left : Slots = slots_of c.restore-loaded.new.keys c.restore-loaded.new.times c.restore-loaded.new.fields in
    let encoded : load_tlv image came ≡ load_image image came = sym (by_length.some_bytes _ _ (omega (arith, c.if-image-eq0.false))) in
    let arrays : arrays_in image ≡ Some c.in-Some.arrays = sym c.arrays_in.ensures ∙ c.in-Some.is in
    load-done came _ c.requires _ _ arrays _ c.in_default-image_gate.ensures refl c.restore-loaded.result
    left c.restore-loaded.new.records c.restore-loaded.ensures _ c.unsaved.ensures
    ∙ encoded
