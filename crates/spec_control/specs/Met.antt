-- What a caller's own items say of the delimiters that its ends met (own choice).
use Rattle.std.specs.Prelude.{◌≡◌, ◌&&◌, ℕ, Bool, true, false, List, [], ◌∷◌, take}
use Rattle.std.specs.List.{list_any}
use Rattle.zq_base.specs.declared.ids.EndId.{EndId}
use Rattle.spec_control.specs.declared.entry.Joining.{Joining}
use Rattle.spec_control.specs.declared.entry.Did.{Did}
use Rattle.spec_control.specs.declared.entry.Did.TheVariants.{Asked, Delivered, Delimited}
use Rattle.spec_control.specs.declared.entry.Item.{Item}
use Rattle.spec_control.specs.declared.entry.Item.TheVariants.{Event, Seen}
use Rattle.spec_control.specs.Control.{begun, is_end, end_of}
use Rattle.spec_control.specs.ControlExamples.{Stories, read_out_run}
use Rattle.spec_control.specs.Held.{items_by}
use Rattle.spec_control.specs.Has.{AreBy}
use Rattle.spec_control.specs.Trial.{with_callers, trial}

-- the end was taken over, and had met its delimiter before
abbrev pub joined_met : {N : Type 0} → EndId → List (Joining N) → Bool
joined_met e js = list_any (λ j. is_end e j.end && j.met) js

module _ {N S : Type 0} where
  abbrev pub met_in_event : EndId → Did N S → Bool
  met_in_event e (Asked req reply h) = joined_met e h.joined
  met_in_event e (Delivered slot letter h) = joined_met e h.joined
  met_in_event e (Delimited d h) = is_end e d

  -- an item says that the end met its delimiter
  abbrev pub says_met : EndId → Item N S → Bool
  says_met e (Event entry) = met_in_event e entry.did
  says_met e (Seen sight) = false

  -- so does one of these items
  abbrev pub met_after : EndId → List (Item N S) → Bool
  met_after e items = list_any (says_met e) items

-- caller 0 has the PULL, socket 1, and meets its delimiter; caller 1 has the PUSH, socket 2; each closes its own; caller 2 is the reaper, caller 3 the context
abbrev pub read_out_callers : List ℕ
read_out_callers = 0 ∷ 1 ∷ 0 ∷ 1 ∷ 0 ∷ 1 ∷ 2 ∷ 2 ∷ 0 ∷ 0 ∷ 0 ∷ 2 ∷ 2 ∷ 2 ∷ 2 ∷ 2 ∷ 2 ∷ 3 ∷ []

module _ (stories : Stories) where
  abbrev pub read_out_trial : List (Item ℕ ℕ)
  read_out_trial = with_callers read_out_callers (read_out_run stories)

  pub record DelimiterIsTold : Type 0 where
    pub callers_may : AreBy [] (begun 1) read_out_trial
    -- its reader meets it, and nobody else
    pub before : met_after (end_of 1 false) (items_by 0 (take 8 read_out_trial)) ≡ false
    pub reader : met_after (end_of 1 false) (items_by 0 (take 9 read_out_trial)) ≡ true
    pub writer : met_after (end_of 1 true) (items_by 1 read_out_trial) ≡ false
    -- the reaper has it from the Reap of the reader's socket, and not of the writer's
    pub unreaped : met_after (end_of 1 false) (items_by 2 (take 11 read_out_trial)) ≡ false
    pub reaped : met_after (end_of 1 false) (items_by 2 (take 12 read_out_trial)) ≡ true
    pub other : met_after (end_of 1 true) (items_by 2 read_out_trial) ≡ false
    -- where neither end meets one, no Reap says so
    pub crossed : met_after (end_of 1 false) (trial stories) ≡ false

-- whatever the holder tells
abbrev pub DelimitersAreTold : Type 0
DelimitersAreTold = (stories : Stories) → DelimiterIsTold stories
