-- What the status is, where the outside has no fault.
use Rattle.std.proofs.Common.{◌≡◌, ◌<◌, ◌≤◌, ◌+◌, ℕ, List, ◌++◌, length, Bool, true, false, Option, Some, None, refl, sym, ap, subst, ◌∙◌, arith, ◌⊎◌, inl, inr, length-append}
use Rattle.std.specs.Prelude.{Ok, Err, nat_lt}
use Rattle.std.proofs.lemmas.Bool.{lt-ltb}
use Rattle.zq_outer.specs.Count.{Rose}
use Rattle.zq_script.specs.declared.fault.ScriptFault.{ScriptFault}
use Rattle.spec_run.specs.Run.{Schedule}
use Rattle.zq_script.specs.Script.{script_of}
use Rattle.spec_run.specs.declared.journal.Journal.{Journal}
use Rattle.spec_run.specs.Script.{Script}
use Rattle.replay_laws.specs.ReadScripts.{ScriptsMayBeAsked}
use Rattle.replay_laws.specs.ScriptBounds.{script_turns, ScriptsAreDoneInTime}
use Rattle.zq_base.specs.declared.kind.Kind.{Kind}
use Rattle.zq_base.specs.declared.options.Login.{Login}
use Rattle.zq_call.specs.declared.request.Request.{Request}
use Rattle.zq_call.specs.declared.request.Request.TheVariants as request
use Rattle.zq_top.specs.Told.{Told}
use Rattle.zq_call.specs.Call.{AsksRun, AsksNothing, AsksHear, SourceAt, InputAt, WasRead}
use Rattle.zq_call.specs.declared.status.Status.{Status}
use Rattle.zq_call.specs.declared.status.Status.TheVariants as status
use Rattle.zq_top.specs.Headline.{AsksScript, IsJournal, Prints, SaysText, ComesDue, run_status}
use Rattle.zq_top.proofs.LocalLemmas.{local_script}

-- octets past the limit are no script
too_long : (octets : List ℕ) (script : Script) → 1048576 < length octets → script_of octets ≡ Ok script → ⊥
unfolding script_of
too_long octets script long is = let test : nat_lt 1048576 (length octets) ≡ true = lt-ltb 1048576 (length octets) long in
    let clash = rw test at is in cc

-- the words ask for one schedule
run_parts : (a b c d : ℕ) → ◌≡◌ {A = Option Request} (Some (request.Run a b)) (Some (request.Run c d)) → (a ≡ c) × (b ≡ d)
run_parts a b c d same = (cc, cc)

by_parts : (a b c d : ℕ) → a ≡ c → b ≡ d → ◌≡◌ {A = Schedule} (record { seed = a; turns = b }) (record { seed = c; turns = d })
by_parts a b c d e f = cc

one_schedule : (words : List (List ℕ)) (a b : Schedule) → AsksRun words a → AsksRun words b → a ≡ b
one_schedule words a b first second =
    let parts = run_parts a.seed a.turns b.seed b.turns (sym first ∙ second) in by_parts a.seed a.turns b.seed b.turns parts.0 parts.1

-- the octets that were read are a script: they are all that the source had
all_read : (before after : SourceAt) (octets read : List ℕ) (script : Script) → before.left ≡ Some octets → WasRead before after read → script_of read ≡ Ok script → read ≡ octets
all_read before after octets read script left (few, inl (rose, all)) is = let whole = rw left at all in sym whole.0
all_read before after octets read script left (few, inr (limit, some)) is = absurd (too_long read script (omega (arith, limit)) is)

-- octets that are a script are read whole
script_read : (before after : SourceAt) (octets read : List ℕ) (script : Script) → before.left ≡ Some octets → WasRead before after read → script_of octets ≡ Ok script → read ≡ octets
script_read before after octets read script left (few, inl (rose, all)) is = let whole = rw left at all in sym whole.0
script_read before after octets read script left (few, inr (limit, some)) is =
    let parts = rw left at some in
    let whole : octets ≡ read ++ parts.0 = parts.1 in
    let long : length octets ≡ length read + length parts.0 = ap length whole ∙ length-append read parts.0 in
    absurd (too_long octets script (omega (arith, limit, long)) is)

-- an unfinished journal is of a script whose lines tell more turns than the run may take
not_done : ScriptsAreDoneInTime ℕ Told → ScriptsMayBeAsked → (octets : List ℕ) (script : Script) (schedule : Schedule) (j : Journal) → script_of octets ≡ Ok script
    → IsJournal script schedule j → j.done ≡ false → script_turns script ≤ schedule.turns → ⊥
not_done in_time may octets script schedule j read is none few =
    let clash : false ≡ true = sym none ∙ in_time script schedule j is (local_script script (may octets script read)) few in cc

-- words that ask for a run ask for something, and for nothing else
no_request : (r : Request) → ◌≡◌ {A = Option Request} (Some r) None → ⊥
no_request r same = cc

not_hear : (a b : ℕ) (kind : Kind) (login : Option Login) → ◌≡◌ {A = Option Request} (Some (request.Run a b)) (Some (request.Hear kind login)) → ⊥
not_hear a b kind login same = cc

run_asks : (words : List (List ℕ)) (schedule : Schedule) → AsksRun words schedule → AsksNothing words → ⊥
run_asks words schedule asks none = no_request (request.Run schedule.seed schedule.turns) (sym asks ∙ none)

run_hears_none : (words : List (List ℕ)) (schedule : Schedule) (kind : Kind) (login : Option Login) → AsksRun words schedule → AsksHear words kind login → ⊥
run_hears_none words schedule kind login asks hears = not_hear schedule.seed schedule.turns kind login (sym asks ∙ hears)

-- a run that is asked for ends as its one journal does
module _ (words : List (List ℕ)) (before after : InputAt) (text : List ℕ) (schedule : Schedule) (script : Script) (asks : AsksScript words before.source.left schedule script) where
  -- a journal that was printed is of this script, by this schedule
  one_end : (done : Bool) (other : Schedule) (read readings : List ℕ) (j : Journal) → AsksRun words other → WasRead before.source after.source read → Prints other done read readings text
      → IsJournal script schedule j → j.done ≡ done
  one_end done other read readings j asked_other was_read prints is =
      let same : read ≡ asks.octets = script_read before.source after.source asks.octets read script asks.left_is was_read asks.script_is in
      let found : script_of asks.octets ≡ Ok prints.script = subst (λ (l : List ℕ). script_of l ≡ Ok prints.script) same prints.script_is in
      let whole = sym asks.script_is ∙ found in
      let one : script ≡ prints.script = cc in
      let when : schedule ≡ other = one_schedule words schedule other asks.asks asked_other in
      let there : IsJournal prints.script other j = subst (λ (t : Schedule). IsJournal prints.script t j) when (subst (λ (t : Script). IsJournal t schedule j) one is) in
      ap (λ (k : Journal). k.done) (prints.only j there) ∙ prints.done_is

  pub ends_so : (s : Status) (j : Journal) → (Rose before.source.faults after.source.faults → ⊥) → SaysText s words before after text → IsJournal script schedule j → ComesDue s (run_status j.done)
  ends_so status.Done j sound (inl (other, asked_other, (read, was_read, (readings, prints, reads)))) is = inl (ap run_status (sym (one_end true other read readings j asked_other was_read prints is)))
  ends_so status.Done j sound (inr (kind, login, asked_other, heard, still)) is = absurd (run_hears_none words schedule kind login asks.asks asked_other)
  ends_so status.Script j sound (other, asked_other, (read, was_read, (refuses, still))) is =
      let same : read ≡ asks.octets = script_read before.source after.source asks.octets read script asks.left_is was_read asks.script_is in
      let clash : script_of asks.octets ≡ Err refuses.fault = subst (λ (l : List ℕ). script_of l ≡ Err refuses.fault) same refuses.fault_is in
      let both = sym asks.script_is ∙ clash in absurd (cc)
  ends_so status.Usage j sound says is = absurd (run_asks words schedule asks.asks says.0)
  ends_so status.ReadFault j sound says is = absurd (sound says.1)
  ends_so status.WriteFault j sound says is = absurd says
  ends_so status.OutOfMemory j sound says is = inr refl
  ends_so status.Unfinished j sound (other, asked_other, (read, was_read, (readings, prints, reads))) is = inl (ap run_status (sym (one_end false other read readings j asked_other was_read prints is)))
  ends_so status.Heard j sound (kind, login, asked_other, heard, still) is = absurd (run_hears_none words schedule kind login asks.asks asked_other)

module _ (words : List (List ℕ)) (before after : InputAt) (text octets : List ℕ) (schedule : Schedule) (asks : AsksRun words schedule) (left : before.source.left ≡ Some octets)
    (sound : Rose before.source.faults after.source.faults → ⊥) where
  pub completes : ScriptsAreDoneInTime ℕ Told → ScriptsMayBeAsked → (s : Status) (script : Script) → SaysText s words before after text → script_of octets ≡ Ok script
      → script_turns script ≤ schedule.turns → (s ≡ status.Done) ⊎ (s ≡ status.OutOfMemory)
  completes in_time may status.Done script says is few = inl refl
  completes in_time may status.Script script (other, asked_other, (read, was_read, (refuses, still))) is few =
      let same : read ≡ octets = script_read before.source after.source octets read script left was_read is in
      let clash : script_of octets ≡ Err refuses.fault = subst (λ (l : List ℕ). script_of l ≡ Err refuses.fault) same refuses.fault_is in
      let both = sym is ∙ clash in cc
  completes in_time may status.Usage script says is few = absurd (run_asks words schedule asks says.0)
  completes in_time may status.ReadFault script says is few = absurd (sound says.1)
  completes in_time may status.WriteFault script says is few = absurd says
  completes in_time may status.OutOfMemory script says is few = inr refl
  completes in_time may status.Heard script (kind, login, asked_other, heard, still) is few = absurd (run_hears_none words schedule kind login asks asked_other)
  completes in_time may status.Unfinished script (other, asked_other, (read, was_read, (readings, prints, reads))) is few =
      let same : read ≡ octets = script_read before.source after.source octets read script left was_read is in
      let found : script_of octets ≡ Ok prints.script = subst (λ (l : List ℕ). script_of l ≡ Ok prints.script) same prints.script_is in
      let one : script ≡ prints.script = let both = sym is ∙ found in cc in
      let when : schedule ≡ other = one_schedule words schedule other asks asked_other in
      absurd (not_done in_time may octets prints.script other prints.journal found prints.is_journal prints.done_is
      (subst (λ (t : Schedule). script_turns prints.script ≤ t.turns) when (subst (λ (t : Script). script_turns t ≤ schedule.turns) one few)))

  pub refuses : (s : Status) (fault : ScriptFault) → SaysText s words before after text → script_of octets ≡ Err fault
      → (s ≡ status.Script) ⊎ (s ≡ status.OutOfMemory)
  refuses status.Done fault (inr (kind, login, asked_other, heard, still)) is = absurd (run_hears_none words schedule kind login asks asked_other)
  refuses status.Done fault (inl (other, asked_other, (read, was_read, (readings, prints, reads)))) is =
      let same : read ≡ octets = all_read before.source after.source octets read prints.script left was_read prints.script_is in
      let found : script_of octets ≡ Ok prints.script = subst (λ (l : List ℕ). script_of l ≡ Ok prints.script) same prints.script_is in
      let both = sym found ∙ is in cc
  refuses status.Script fault says is = inl refl
  refuses status.Usage fault says is = absurd (run_asks words schedule asks says.0)
  refuses status.ReadFault fault says is = absurd (sound says.1)
  refuses status.WriteFault fault says is = absurd says
  refuses status.OutOfMemory fault says is = inr refl
  refuses status.Heard fault (kind, login, asked_other, heard, still) is = absurd (run_hears_none words schedule kind login asks asked_other)
  refuses status.Unfinished fault (other, asked_other, (read, was_read, (readings, prints, reads))) is =
      let same : read ≡ octets = all_read before.source after.source octets read prints.script left was_read prints.script_is in
      let found : script_of octets ≡ Ok prints.script = subst (λ (l : List ℕ). script_of l ≡ Ok prints.script) same prints.script_is in
      let both = sym found ∙ is in cc
