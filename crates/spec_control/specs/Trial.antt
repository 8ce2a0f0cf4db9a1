-- A small trial, by hand from the tables: two callers have a socket each, a pair is made at the one and bound at the other, both are closed, and a third caller, the reaper, settles.
use Rattle.std.specs.Prelude.{◌≡◌, ℕ, true, false, List, [], ◌∷◌, Some, None, take}
use Rattle.spec_control.specs.declared.entry.Item.{Item}
use Rattle.spec_control.specs.declared.entry.Item.TheVariants.{Event, Seen}
use Rattle.spec_control.specs.Control.{begun, end_of}
use Rattle.spec_control.specs.ControlRun.{IsControlRun}
use Rattle.spec_control.specs.Names.{AreNamed}
use Rattle.spec_control.specs.ControlExamples.{Stories, crossed_run}
use Rattle.spec_control.specs.Held.{Held, ends_after, items_by}
use Rattle.spec_control.specs.Has.{has_after, AreBy}

-- the item with this caller
abbrev pub by_caller : {N S : Type 0} → ℕ → Item N S → Item N S
by_caller k (Event entry) = Event (record entry { by = k })
by_caller k (Seen sight) = Seen (record sight { by = k })

-- the items with these callers, as far as there are callers
abbrev pub with_callers : {N S : Type 0} → List ℕ → List (Item N S) → List (Item N S)
with_callers ks [] = []
with_callers [] (item ∷ items) = item ∷ items
with_callers (k ∷ ks) (item ∷ items) = by_caller k item ∷ with_callers ks items

-- caller 0 makes the PULL, socket 1, and binds it; caller 1 makes the PUSH, socket 2, and connects it; caller 0 takes the PipeBind; each closes its own; caller 2 reaps both and takes all further commands; the context is caller 3
abbrev pub callers : List ℕ
callers = 0 ∷ 1 ∷ 0 ∷ 1 ∷ 0 ∷ 0 ∷ 1 ∷ 2 ∷ 2 ∷ 2 ∷ 2 ∷ 2 ∷ 2 ∷ 2 ∷ 2 ∷ 2 ∷ 2 ∷ 3 ∷ []

module _ (stories : Stories) where
  abbrev pub trial : List (Item ℕ ℕ)
  trial = with_callers callers (crossed_run stories)

  -- the ends that a caller's own items give a socket behind so many items of the order
  abbrev pub held : (n : ℕ) → (caller socket : ℕ) → List (Held ℕ)
  held n caller socket = ends_after socket (items_by caller (take n trial))

  -- end 1a writes pipe 11 and reads pipe 12, end 1b the other way round
  abbrev pub end_a : Held ℕ
  end_a = record { end = end_of 1 true; written = 11; read = 12 }

  abbrev pub end_b : Held ℕ
  end_b = record { end = end_of 1 false; written = 12; read = 11 }

  pub record TrialIsSo : Type 0 where
    pub run_is : IsControlRun (begun 1) trial
    pub callers_may : AreBy [] (begun 1) trial
    pub named : AreNamed [] trial
    -- the connect makes the pair and attaches its end, and the other end is not attached yet
    pub connected : held 4 1 2 ≡ end_a ∷ []
    pub not_bound : held 4 0 1 ≡ []
    -- the other side reads both names off the command that binds its end
    pub bound : held 5 0 1 ≡ end_b ∷ []
    -- a close gives the ends away, and a Reap brings them to the reaper
    pub closed : held 7 0 1 ≡ []
    pub reaped_b : held 9 2 1 ≡ end_b ∷ []
    pub reaped_a : held 9 2 2 ≡ end_a ∷ []
    pub reaper_has : has_after 1 (take 9 trial) ≡ Some 2
    pub nobody_has : has_after 1 (take 7 trial) ≡ None
    -- an end is gone at its PipeTermAck
    pub settled_b : held 14 2 1 ≡ []
    pub left_a : held 14 2 2 ≡ end_a ∷ []
    pub settled_a : held 15 2 2 ≡ []

-- whatever the holder tells
abbrev pub TrialComesOut : Type 0
TrialComesOut = (stories : Stories) → TrialIsSo stories
