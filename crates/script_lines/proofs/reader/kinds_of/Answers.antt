-- `script_lines::reader::kinds_of` meets its contract. Assumes nothing.
use mathlib.Core.Logic.{⊎_elim}
use Rattle.script_lines.specs.Lines.{one_of, kinds_of}
use borrow.Author.Rules.{rules}
use borrow.Author.Tests.{tests}
use Rattle.script_lines.proofs.reader.kinds_of.Goals as goal

pub returns-in-78 : goal.returns-in-78
unfolding kinds_of
returns-in-78 c =
    rw c.in-78.is c.two_words.ensures

pub returns-in-65 : goal.returns-in-65
unfolding kinds_of
returns-in-65 c =
    rw c.in-65.is c.scene_and.ensures

pub returns-in-66 : goal.returns-in-66
unfolding kinds_of
returns-in-66 c =
    rw c.in-66.is c.scene_and-in-66.ensures

pub returns-in-83 : goal.returns-in-83
unfolding kinds_of
returns-in-83 c =
    rw c.in-83.is c.scene_and-in-83.ensures

pub returns-in-86 : goal.returns-in-86
unfolding kinds_of
returns-in-86 c =
    ⊎_elim (λ e. rw e c.scene_and-in-86.ensures) (λ e. rw e c.scene_and-in-86.ensures) c.in-86.is

pub returns-in-88 : goal.returns-in-88
unfolding kinds_of
returns-in-88 c =
    rw c.in-88.is

pub returns-in-67 : goal.returns-in-67
unfolding kinds_of
returns-in-67 c =
    rw c.in-67.is

pub returns-in-76 : goal.returns-in-76
unfolding kinds_of
returns-in-76 c =
    rw c.in-76.is c.scene_and-in-76.ensures

pub returns-in-77 : goal.returns-in-77
unfolding kinds_of
returns-in-77 c =
    rw c.in-77.is

pub returns-in-73 : goal.returns-in-73
unfolding kinds_of
returns-in-73 c =
    rw c.in-73.is

pub returns-in-84 : goal.returns-in-84
unfolding kinds_of
returns-in-84 c =
    rw c.in-84.is

pub returns-in-70 : goal.returns-in-70
unfolding kinds_of
returns-in-70 c =
    rw c.in-70.is

pub returns-in-75 : goal.returns-in-75
unfolding kinds_of
returns-in-75 c =
    rw c.in-75.is

pub returns-in-80 : goal.returns-in-80
unfolding kinds_of
returns-in-80 c =
    rw c.in-80.is

pub returns-in-71 : goal.returns-in-71
unfolding kinds_of
returns-in-71 c =
    ⊎_elim (λ e. rw e) (λ e. rw e) c.in-71.is

pub returns-in-101 : goal.returns-in-101
unfolding kinds_of
returns-in-101 c =
    rw c.in-101.is c.scene_and-in-101.ensures

pub returns-in-114 : goal.returns-in-114
unfolding kinds_of
returns-in-114 c =
    rw c.in-114.is c.scene_and-in-114.ensures

pub returns-in-74 : goal.returns-in-74
unfolding kinds_of one_of
returns-in-74 c =
    ⊎_elim (λ e. rw e) (⊎_elim (λ e. rw e) (⊎_elim (λ e. rw e) (λ e. rw e))) c.in-74.is

pub returns-in_default : goal.returns-in_default
unfolding kinds_of one_of
returns-in_default c = search (tests, rules)
