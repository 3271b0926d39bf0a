-- `script_events::writes::entry_fits` meets its contract. Assumes nothing.
use mathlib.Core.Path.{sym}
use borrow.Author.Tests.{le-leb, lt-leb, le-ltb, lt-ltb}
use Rattle.words.proofs.Tests.{and_true}
use Rattle.words.specs.Conditions.{all_of}
use Rattle.script_events.specs.Writes.{entry_fits}
use Rattle.script_events.proofs.WriteLaws.{nonzero}
use Rattle.script_events.proofs.writes.entry_fits.Goals as goal

pub returns-then-fabric-eq0 : goal.returns-then-fabric-eq0
unfolding entry_fits all_of
returns-then-fabric-eq0 c =
    rw c.if-fabric-eq0.true

pub returns-then-ext-gt-MAX_EXT_FIELDS_LEN : goal.returns-then-ext-gt-MAX_EXT_FIELDS_LEN
unfolding entry_fits all_of
returns-then-ext-gt-MAX_EXT_FIELDS_LEN c =
    simp (nonzero _ c.if-fabric-eq0.false, lt-leb _ _ c.if-ext-gt-MAX_EXT_FIELDS_LEN.true)

pub returns-then-state-n : goal.returns-then-state-n
unfolding entry_fits all_of
returns-then-state-n c =
    simp (nonzero _ c.if-fabric-eq0.false, le-leb _ _ c.if-ext-gt-MAX_EXT_FIELDS_LEN.false, le-ltb _ _ c.if-state-n.true)

pub returns-then-n-ge-MAX_SCENES : goal.returns-then-n-ge-MAX_SCENES
unfolding entry_fits all_of
returns-then-n-ge-MAX_SCENES c =
    simp (nonzero _ c.if-fabric-eq0.false, le-leb _ _ c.if-ext-gt-MAX_EXT_FIELDS_LEN.false, lt-ltb _ _ c.if-state-n.false, le-ltb _ _ c.if-n-ge-MAX_SCENES.true)

pub returns-then-keys-n : goal.returns-then-keys-n
unfolding entry_fits all_of
returns-then-keys-n c =
    simp (
      nonzero _ c.if-fabric-eq0.false,
      le-leb _ _ c.if-ext-gt-MAX_EXT_FIELDS_LEN.false,
      lt-ltb _ _ c.if-state-n.false,
      lt-ltb _ _ c.if-n-ge-MAX_SCENES.false,
      le-ltb _ _ c.if-keys-n.true,
    )

pub returns-then-times-n : goal.returns-then-times-n
unfolding entry_fits all_of
returns-then-times-n c =
    simp (
      nonzero _ c.if-fabric-eq0.false,
      le-leb _ _ c.if-ext-gt-MAX_EXT_FIELDS_LEN.false,
      lt-ltb _ _ c.if-state-n.false,
      lt-ltb _ _ c.if-n-ge-MAX_SCENES.false,
      lt-ltb _ _ c.if-keys-n.false,
      le-ltb _ _ c.if-times-n.true,
    )

pub returns : goal.returns
unfolding entry_fits all_of
returns c =
    simp (
      nonzero _ c.if-fabric-eq0.false,
      le-leb _ _ c.if-ext-gt-MAX_EXT_FIELDS_LEN.false,
      lt-ltb _ _ c.if-state-n.false,
      lt-ltb _ _ c.if-n-ge-MAX_SCENES.false,
      lt-ltb _ _ c.if-keys-n.false,
      lt-ltb _ _ c.if-times-n.false,
    ) (sym (and_true _))
