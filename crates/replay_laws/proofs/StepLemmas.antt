-- What each worker's step does is settled by what it found and by the steps past.
use Rattle.std.specs.Prelude.{◌≡◌, ◌&&◌, ℕ, Bool, true, false, not, List, [], ◌∷◌, ◌++◌, Option, Some, None, All, cond, filter, find, if◌then◌else◌, map, refl}
use Rattle.std.proofs.Common.{sym, ap, ◌∙◌, subst, append-nil}
use Rattle.std.proofs.lemmas.List.Elements.{All-head, All-tail}
use Rattle.std.specs.List.{list_all}
use Rattle.zq_base.specs.Ends.{PipeId}
use Rattle.zq_base.specs.declared.ids.ObjId.{ObjId}
use Rattle.spec_pattern.specs.PipeStep.{PipeStep}
use Rattle.spec_pattern.specs.declared.answers.Skip.{Skip}
use Rattle.spec_control.specs.declared.letter.Letter.{Letter}
use Rattle.spec_control.specs.declared.letter.Word.{Word}
use Rattle.spec_control.specs.declared.letter.Word.TheVariants.{Own, Plug, TermReq, Term, TermAck, PipeBind, PipeTerm, PipeTermAck, Stop, Reap}
use Rattle.spec_control.specs.declared.request.Req.TheVariants.{AskTerm}
use Rattle.spec_control.specs.declared.entry.Answered.{Answered}
use Rattle.spec_control.specs.declared.entry.Did.{Did}
use Rattle.spec_control.specs.declared.entry.Did.TheVariants.{Delivered}
use Rattle.spec_control.specs.declared.entry.Item.{Item}
use Rattle.spec_control.specs.declared.entry.Item.TheVariants.{Seen}
use Rattle.spec_control.specs.declared.entry.Sight.{Sight}
use Rattle.spec_control.specs.declared.entry.SeenEmpty.TheVariants.{Reapers}
use Rattle.spec_control.specs.declared.stage.Use.TheVariants.{Used}
use Rattle.spec_control.specs.Stage.{is_used}
use Rattle.spec_control.specs.Row.{is_socket, is_session}
use Rattle.spec_control.specs.Rows.{obj}
use Rattle.spec_control.specs.Control.{Control}
use Rattle.spec_control.specs.After.{after}
use Rattle.spec_control.specs.Reply.{root_state}
use Rattle.spec_control.specs.ControlRun.{Fits, FitsItem, IsSeen, AreEmpty, LeavesOutput, Joins, joins_in, after_item}
use Rattle.control_laws.proofs.ListLemmas.{never}
use Rattle.control_laws.specs.Steps.{Steps}
use Rattle.control_laws.specs.OwnMoves.{own_moves}
use Rattle.control_laws.proofs.StepsLemmas.{events_are_steps}
use Rattle.control_laws.proofs.LeadLemmas.{attached_by}
use Rattle.spec_control.specs.OwnAsks.{is_none}
use Rattle.spec_control.specs.Moments.{Moment, left_by, first_waiting}
use Rattle.spec_run.specs.declared.journal.Entry.{Entry}
use Rattle.spec_run.specs.Act.{Act, Said, Deed, Tries, Shuts, Fetches, Idles, Works, Looks, AsksRoot, Reads, steps_in, acts_of, all_acts}
use Rattle.spec_run.specs.Event.{IsLookAt, LooksBehind, TakesLetter, seals_in, acts_said}
use Rattle.spec_run.specs.Standing.{ActorStanding, has_finished}
use Rattle.spec_run.specs.InTurns.{is_live, AsksIf, Begins, TakesFirstWaiting, ReaperStep}
use Rattle.spec_run.specs.Fate.{skips_of}
use Rattle.spec_run.specs.Journal.{entries_shown}
use Rattle.replay_laws.specs.Blank.{blank, delivered}
use Rattle.replay_laws.proofs.BlankLemmas.{counts_are_not_read, reaped_alike}
use Rattle.replay_laws.proofs.SlotLemmas.{Mark, mark, marks, mark_in, mark_of, marks_after, word_makes_none}
use Rattle.replay_laws.proofs.WalkLemmas.{leaves, Walks, walks_front, walks_behind, seals_alone, Reached, Same, same_none, same_both, same_as, said_same}
use Rattle.replay_laws.proofs.OwnJoinLemmas.{attached_own}
use Rattle.replay_laws.proofs.AlikeLemmas.{as_joins, same_kinds, word_joins_alike, settled_alike}
use Rattle.replay_laws.proofs.LetterLemmas.{kept_of, boxes_of, for_living, ends_as, ends_of_word}
use Rattle.replay_laws.proofs.LookLemmas.{behind_same, behind_walks}
use Rattle.replay_laws.proofs.PumpLemmas.{same_letter}
use Rattle.replay_laws.proofs.LineLemmas.{plain_same}
use Rattle.replay_laws.proofs.ReapLemmas.{steps_used, is_used_as, AllYes, all_yes, told_yes, IsReapers, reaper_box, taker_is, whose_used}

-- ---- which mailbox of the reaper's is not empty
none_waiting : (c : Control) (os : List ObjId) → All (λ o. (obj c.rows o.0).request ≡ Used → c.boxes (obj c.rows o.0).slot ≡ []) os
    → find (λ slot. not (is_none (c.boxes slot))) (map (λ o. (obj c.rows o.0).slot) (filter (λ o. is_used (obj c.rows o.0).request) os)) ≡ None
none_waiting c [] all = refl
none_waiting c (o ∷ os) all =
    by (is_used (obj c.rows o.0).request) refl (none_waiting c os (All-tail (λ (x : ObjId). (obj c.rows x.0).request ≡ Used → c.boxes (obj c.rows x.0).slot ≡ []) o os all))
  where
    by : (b : Bool) → is_used (obj c.rows o.0).request ≡ b → find (λ slot. not (is_none (c.boxes slot))) (map (λ x. (obj c.rows x.0).slot) (filter (λ x. is_used (obj c.rows x.0).request) os)) ≡ None
        → find (λ slot. not (is_none (c.boxes slot))) (map (λ x. (obj c.rows x.0).slot) (cond b (o ∷ filter (λ x. is_used (obj c.rows x.0).request) os) (filter (λ x. is_used (obj c.rows x.0).request) os))) ≡ None
    by false used rest = rest
    by true used rest =
        let none = All-head (λ (x : ObjId). (obj c.rows x.0).request ≡ Used → c.boxes (obj c.rows x.0).slot ≡ []) o os all (is_used_as (obj c.rows o.0).request used) in
        ap (λ (ls : List Letter). if not (is_none ls) then Some (obj c.rows o.0).slot else find (λ slot. not (is_none (c.boxes slot))) (map (λ x. (obj c.rows x.0).slot) (filter (λ x. is_used (obj c.rows x.0).request) os))) none ∙ rest

idle_waits : (c : Control) → AreEmpty c Reapers → first_waiting c ≡ None
idle_waits c empty =
    ap (λ (ls : List Letter). if not (is_none ls) then Some 0 else find (λ slot. not (is_none (c.boxes slot))) (map (λ x. (obj c.rows x.0).slot) (filter (λ x. is_used (obj c.rows x.0).request) c.closed))) empty.0
    ∙ none_waiting c c.closed empty.1

some_none : (x : Option ℕ) (slot : ℕ) → x ≡ Some slot → x ≡ None → ⊥
some_none x slot e f = cc

same_slot : (x : Option ℕ) (y : Option ℕ) (i j : ℕ) → x ≡ y → x ≡ Some i → y ≡ Some j → i ≡ j
same_slot x y i j e f g = cc

waiting_alike : (c d : Control) → blank c ≡ blank d → first_waiting c ≡ first_waiting d
waiting_alike c d p = ap first_waiting p

-- what is shown of a deed: its steps at pipes, the messages that it dropped, and the line that is over with it
pub record Bare : Type 0 where
  pub steps : List PipeStep
  pub skips : List Skip
  pub entries : List Entry

module _ {N S : Type 0} where
  abbrev pub bare : Deed N S → Bare
  bare d = record { steps = steps_in (acts_of d); skips = skips_of d; entries = entries_shown (d ∷ []) }

  -- two steps of a worker are one
  pub record StepSame (c d : Control) (ds es : List (Deed N S)) : Type 0 where
    pub same : Same c d (all_acts ds) (all_acts es)
    pub bares : map bare ds ≡ map bare es

  -- ---- the reaper takes a letter
  not_left : (c : Control) (slot : ℕ) (letter : Letter) (g : Answered N S) → is_session (obj c.rows letter.to.0).kind ≡ false → LeavesOutput c (Delivered (record { 0 = slot }) letter g) → g.output_left ≡ false
  not_left c slot letter g apart leaves_out = by g.output_left refl
    where
      by : (b : Bool) → g.output_left ≡ b → b ≡ false
      by true e = absurd (never (sym (sym (leaves_out e).0 ∙ apart)))
      by false e = refl

  reaper_yes : (c : Control) → Reached N S c → (slot : ℕ) (letter : Letter) (g : Answered N S) → IsReapers c slot → Fits c (Delivered (record { 0 = slot }) letter g)
      → ((socket : ObjId) → letter.word ≡ Reap socket → ⊥) → AllYes g.joined
  reaper_yes c r slot letter g first fits none =
      let did : Did N S = Delivered (record { 0 = slot }) letter g in
      let i = letter.to.0 in
      let d = after did c in
      let here = (for_living c r slot letter fits.may).here in
      let own = attached_own c r did fits i refl in
      let ends = ends_as g.joined (joins_in c did) fits.answered.joined ∙ ends_of_word letter.word c i none in
      let steps : Steps c.rows d.rows = subst (λ x. Fits x did → Steps x.rows (after did x).rows) r.is (events_are_steps N S 1 r.items r.run did) fits in
      let mark_same : mark (obj d.rows i) ≡ mark (obj c.rows i) = sym (mark_of d.rows i)
      ∙ ap (λ l. mark_in l i) (marks_after c did (kept_of c r) fits ∙ ap (λ l. marks c.rows.objects ++ marks l) (word_makes_none i letter.word) ∙ append-nil (marks c.rows.objects)) ∙ mark_of c.rows i in
      all_yes d i g.joined (attached_by (own_moves c did)) ends own
      (λ is. (steps_used c.rows d.rows steps i (whose_used c (boxes_of c r) slot i first here (sym (ap (λ (m : Mark). is_socket m.kind) mark_same) ∙ is))).used)
      fits.answered.kinds

  reaped : (c d : Control) (slot : ℕ) (letter : Letter) (g h : Answered N S) → Reached N S c → Reached N S d → blank c ≡ blank d → IsReapers c slot → IsReapers d slot
      → Fits c (Delivered (record { 0 = slot }) letter g) → Fits d (Delivered (record { 0 = slot }) letter h)
      → blank (after (Delivered (record { 0 = slot }) letter g) c) ≡ blank (after (Delivered (record { 0 = slot }) letter h) d)
  reaped c d slot letter g h r q p first second fits also = by letter.word refl
    where
      plainly : ((socket : ObjId) → letter.word ≡ Reap socket → ⊥) → blank (after (Delivered (record { 0 = slot }) letter g) c) ≡ blank (after (Delivered (record { 0 = slot }) letter h) d)
      plainly none =
          let joins : map as_joins g.joined ≡ map as_joins h.joined = fits.answered.joined ∙ word_joins_alike letter.word c d p ∙ sym also.answered.joined in
          let told = told_yes g.joined h.joined (ends_as g.joined _ fits.answered.joined ∙ ap (map (λ (j : Joins). j.end)) (word_joins_alike letter.word c d p) ∙ sym (ends_as h.joined _ also.answered.joined))
          (reaper_yes c r slot letter g first fits none) (reaper_yes d q slot letter h second also none) in
          counts_are_not_read (Delivered (record { 0 = slot }) letter g) (Delivered (record { 0 = slot }) letter h) c d
          (delivered slot letter g h refl refl (record {
            kinds = same_kinds g.joined h.joined told;
            settled = settled_alike letter.word c d g.settled h.settled fits.answered.settled also.answered.settled;
            left = not_left c slot letter g (taker_is c (boxes_of c r) slot letter.to.0 first (for_living c r slot letter fits.may).here) fits.answered.output
                ∙ sym (not_left d slot letter h (taker_is d (boxes_of d q) slot letter.to.0 second (for_living d q slot letter also.may).here) also.answered.output);
          })) p

      by : (word : Word) → letter.word ≡ word → blank (after (Delivered (record { 0 = slot }) letter g) c) ≡ blank (after (Delivered (record { 0 = slot }) letter h) d)
      by (Reap socket) e =
          let is : ◌≡◌ {A = Letter} letter (record { to = letter.to; word = Reap socket }) = λ i. record { to = letter.to; word = e i } in
          ap (λ (l : Letter). blank (after (let x : Did N S = Delivered (record { 0 = slot }) l g in x) c)) is ∙ reaped_alike slot letter.to socket g h c d p ∙ sym (ap (λ (l : Letter). blank (after (let x : Did N S = Delivered (record { 0 = slot }) l h in x) d)) is)
      by (Own child) e = plainly (λ socket f. other (sym e ∙ f))
        where
          other : {s : ObjId} → Own child ≡ Reap s → ⊥
          other f = cc
      by (Plug end) e = plainly (λ socket f. other (sym e ∙ f))
        where
          other : {s : ObjId} → Plug end ≡ Reap s → ⊥
          other f = cc
      by (TermReq child) e = plainly (λ socket f. other (sym e ∙ f))
        where
          other : {s : ObjId} → TermReq child ≡ Reap s → ⊥
          other f = cc
      by Term e = plainly (λ socket f. other (sym e ∙ f))
        where
          other : {s : ObjId} → Term ≡ Reap s → ⊥
          other f = cc
      by (TermAck child) e = plainly (λ socket f. other (sym e ∙ f))
        where
          other : {s : ObjId} → TermAck child ≡ Reap s → ⊥
          other f = cc
      by (PipeBind x peer) e = plainly (λ socket f. other (sym e ∙ f))
        where
          other : {s : ObjId} → PipeBind x peer ≡ Reap s → ⊥
          other f = cc
      by (PipeTerm x) e = plainly (λ socket f. other (sym e ∙ f))
        where
          other : {s : ObjId} → PipeTerm x ≡ Reap s → ⊥
          other f = cc
      by (PipeTermAck x) e = plainly (λ socket f. other (sym e ∙ f))
        where
          other : {s : ObjId} → PipeTermAck x ≡ Reap s → ⊥
          other f = cc
      by Stop e = plainly (λ socket f. other (sym e ∙ f))
        where
          other : {s : ObjId} → Stop ≡ Reap s → ⊥
          other f = cc

  pub reap_same : (cap cup : PipeId → ℕ) (c d : Control) (past : List PipeStep) (slot : ℕ) (xs ys : List (Act N S)) → Reached N S c → Reached N S d → blank c ≡ blank d → IsReapers c slot → IsReapers d slot
      → Walks cap c past xs → Walks cup d past ys → TakesLetter slot xs → TakesLetter slot ys → Same c d xs ys
  reap_same cap cup c d past slot xs ys r q p first second w w2 t t2 =
      let m = t.taken in
      let n = t2.taken in
      let one = subst (Walks cap c past) t.acts_are w in
      let other = subst (Walks cup d past) t2.acts_are w2 in
      let g = t.delivery.answered in
      let h = t2.delivery.answered in
      let fits : Fits c (Delivered (record { 0 = slot }) t.letter g) = subst (FitsItem c) t.delivery.item_is one.1 in
      let fits2 : Fits d (Delivered (record { 0 = slot }) t2.letter h) = subst (FitsItem d) t2.delivery.item_is other.1 in
      let letter : t2.letter ≡ t.letter = same_letter t2.letter fits2.may.behind t.letter fits.may.behind (sym fits2.may.oldest ∙ ap (λ (x : Control). x.boxes slot) (sym p) ∙ fits.may.oldest) in
      let also : Fits d (Delivered (record { 0 = slot }) t.letter h) = subst (λ l. Fits d (Delivered (record { 0 = slot }) l h)) letter fits2 in
      let event = reaped c d slot t.letter g h r q p first second fits also in
      let left_m : ◌≡◌ {A = Control} (after_item m.item c) (after (Delivered (record { 0 = slot }) t.letter g) c) = ap (λ (k : Item N S). after_item k c) t.delivery.item_is in
      let left_n : ◌≡◌ {A = Control} (after_item n.item d) (after (Delivered (record { 0 = slot }) t.letter h) d) =
      ap (λ (k : Item N S). after_item k d) t2.delivery.item_is ∙ ap (λ (l : Letter). after (let x : Did N S = Delivered (record { 0 = slot }) l h in x) d) letter in
      let states : blank (after_item m.item c) ≡ blank (after_item n.item d) = ap blank left_m ∙ event ∙ sym (ap blank left_n) in
      let said = said_same cap cup c d past m n (walks_front cap (acts_said m) t.looks c past one) (walks_front cup (acts_said n) t2.looks d past other) p states in
      let at_m : left_by m ≡ leaves c (acts_said m) = ap (after_item m.item) one.0 ∙ sym (seals_alone N S (seals_in m) (after_item m.item c)) in
      let at_n : left_by n ≡ leaves d (acts_said n) = ap (after_item n.item) other.0 ∙ sym (seals_alone N S (seals_in n) (after_item n.item d)) in
      let behind = subst (λ (x : Control). LooksBehind x t.letter.word t.looks) at_m t.behind in
      let behind2 = subst (λ (x : Control). LooksBehind x t.letter.word t2.looks) at_n (subst (λ (l : Letter). LooksBehind (left_by n) l.word t2.looks) letter t2.behind) in
      let looks = behind_same cap cup t.letter.word (leaves c (acts_said m)) (leaves d (acts_said n)) (past ++ steps_in (acts_said m)) t.looks t2.looks said.states behind behind2
      (walks_behind cap (acts_said m) t.looks c past one) (behind_walks cup c d past (acts_said m) (acts_said n) t2.looks said other) in
      same_as c d xs ys (acts_said m ++ t.looks) (acts_said n ++ t2.looks) t.acts_are t2.acts_are (same_both c d (acts_said m) (acts_said n) t.looks t2.looks said looks.same)

  -- ---- a look
  pub same_look : (c d : Control) (m n : Moment N S) (s t : Sight) → m.item ≡ Seen s → n.item ≡ Seen t → blank c ≡ blank d → Same c d (Said m ∷ []) (Said n ∷ [])
  same_look c d m n s t f g p = record {
    steps = refl;
    states = ap (λ (k : Item N S). blank (after_item k c)) f ∙ p ∙ sym (ap (λ (k : Item N S). blank (after_item k d)) g);
  }

  -- ---- the reaper's step
  taken_waits : (cap : PipeId → ℕ) (c : Control) (past : List PipeStep) (slot : ℕ) (acts : List (Act N S)) → Walks cap c past acts → TakesFirstWaiting slot acts → first_waiting c ≡ Some slot
  taken_waits cap c past slot acts w t =
      let one = subst (Walks cap c past) t.takes.acts_are w in
      ap first_waiting (sym one.0) ∙ t.first

  idles_wait : (cap : PipeId → ℕ) (c : Control) (past : List PipeStep) (m : Moment N S) → Walks cap c past (Said m ∷ []) → IsLookAt Reapers m → first_waiting c ≡ None
  idles_wait cap c past m w look =
      let seen : IsSeen c look.sight = subst (FitsItem c) look.item_is w.1 in
      idle_waits c (subst (AreEmpty c) look.empty_is seen.empty)

  alone : (xs : List (Act N S)) → xs ++ [] ≡ xs
  alone xs = append-nil xs

  pub reaper_same : (cap cup : PipeId → ℕ) (c d : Control) (past : List PipeStep) (ds es : List (Deed N S)) → Reached N S c → Reached N S d → blank c ≡ blank d
      → Walks cap c past (all_acts ds) → Walks cup d past (all_acts es) → ReaperStep ds → ReaperStep es → StepSame c d ds es
  reaper_same cap cup c d past (Fetches slot acts ∷ []) (Fetches slot2 acts2 ∷ []) r q p w w2 f g =
      let one = subst (Walks cap c past) (alone acts) w in
      let other = subst (Walks cup d past) (alone acts2) w2 in
      let first = taken_waits cap c past slot acts one f in
      let second = taken_waits cup d past slot2 acts2 other g in
      let slots = same_slot (first_waiting c) (first_waiting d) slot slot2 (waiting_alike c d p) first second in
      let same = reap_same cap cup c d past slot acts acts2 r q p (reaper_box c (boxes_of c r) slot first) (reaper_box d (boxes_of d q) slot (subst (λ k. first_waiting d ≡ Some k) (sym slots) second)) one other f.takes (subst (λ k. TakesLetter k acts2) (sym slots) g.takes) in
      record {
        same = same_as c d (acts ++ []) (acts2 ++ []) acts acts2 (alone acts) (alone acts2) same;
        bares = ap (λ l. record { steps = l; skips = []; entries = [] } ∷ []) same.steps;
      }
  reaper_same cap cup c d past (Idles m ∷ []) (Idles n ∷ []) r q p w w2 f g = record { same = same_look c d m n f.sight g.sight f.item_is g.item_is p; bares = refl }
  reaper_same cap cup c d past (Fetches slot acts ∷ []) (Idles n ∷ []) r q p w w2 f g =
      absurd (some_none (first_waiting d) slot (sym (waiting_alike c d p) ∙ taken_waits cap c past slot acts (subst (Walks cap c past) (alone acts) w) f) (idles_wait cup d past n w2 g))
  reaper_same cap cup c d past (Idles m ∷ []) (Fetches slot acts ∷ []) r q p w w2 f g =
      absurd (some_none (first_waiting c) slot (waiting_alike c d p ∙ taken_waits cup d past slot acts (subst (Walks cup d past) (alone acts) w2) g) (idles_wait cap c past m w f))
  reaper_same cap cup c d past [] es r q p w w2 f g = absurd f
  reaper_same cap cup c d past (Tries t ∷ []) es r q p w w2 f g = absurd f
  reaper_same cap cup c d past (Shuts acts ∷ []) es r q p w w2 f g = absurd f
  reaper_same cap cup c d past (Works acts ∷ []) es r q p w w2 f g = absurd f
  reaper_same cap cup c d past (Looks m ∷ []) es r q p w w2 f g = absurd f
  reaper_same cap cup c d past (AsksRoot acts ∷ []) es r q p w w2 f g = absurd f
  reaper_same cap cup c d past (Reads now ∷ []) es r q p w w2 f g = absurd f
  reaper_same cap cup c d past (x ∷ y ∷ ds) es r q p w w2 f g = elim f [ ]
  reaper_same cap cup c d past (Fetches slot acts ∷ []) [] r q p w w2 f g = absurd g
  reaper_same cap cup c d past (Fetches slot acts ∷ []) (Tries t ∷ []) r q p w w2 f g = absurd g
  reaper_same cap cup c d past (Fetches slot acts ∷ []) (Shuts acts2 ∷ []) r q p w w2 f g = absurd g
  reaper_same cap cup c d past (Fetches slot acts ∷ []) (Works acts2 ∷ []) r q p w w2 f g = absurd g
  reaper_same cap cup c d past (Fetches slot acts ∷ []) (Looks m ∷ []) r q p w w2 f g = absurd g
  reaper_same cap cup c d past (Fetches slot acts ∷ []) (AsksRoot acts2 ∷ []) r q p w w2 f g = absurd g
  reaper_same cap cup c d past (Fetches slot acts ∷ []) (Reads now ∷ []) r q p w w2 f g = absurd g
  reaper_same cap cup c d past (Fetches slot acts ∷ []) (x ∷ y ∷ es) r q p w w2 f g = elim g [ ]
  reaper_same cap cup c d past (Idles m ∷ []) [] r q p w w2 f g = absurd g
  reaper_same cap cup c d past (Idles m ∷ []) (Tries t ∷ []) r q p w w2 f g = absurd g
  reaper_same cap cup c d past (Idles m ∷ []) (Shuts acts2 ∷ []) r q p w w2 f g = absurd g
  reaper_same cap cup c d past (Idles m ∷ []) (Works acts2 ∷ []) r q p w w2 f g = absurd g
  reaper_same cap cup c d past (Idles m ∷ []) (Looks n ∷ []) r q p w w2 f g = absurd g
  reaper_same cap cup c d past (Idles m ∷ []) (AsksRoot acts2 ∷ []) r q p w w2 f g = absurd g
  reaper_same cap cup c d past (Idles m ∷ []) (Reads now ∷ []) r q p w w2 f g = absurd g
  reaper_same cap cup c d past (Idles m ∷ []) (x ∷ y ∷ es) r q p w w2 f g = elim g [ ]

  -- ---- the beginning of a turn
  pub asked_same : (cap cup : PipeId → ℕ) (c d : Control) (past : List PipeStep) (b : Bool) (ds es : List (Deed N S)) → blank c ≡ blank d
      → Walks cap c past (all_acts ds) → Walks cup d past (all_acts es) → AsksIf b ds → AsksIf b es → StepSame c d ds es
  asked_same cap cup c d past true ds es p w w2 (acts, f, is) (acts2, g, is2) =
      let acts_are : all_acts ds ≡ acts_said f.asked = ap all_acts is ∙ alone acts ∙ f.acts_are in
      let acts2_are : all_acts es ≡ acts_said g.asked = ap all_acts is2 ∙ alone acts2 ∙ g.acts_are in
      let plain = plain_same cap cup c d past AskTerm f.reply g.reply f.asked g.asked p (λ z. refl) f.request g.request (subst (Walks cap c past) acts_are w) (subst (Walks cup d past) acts2_are w2) in
      let same = same_as c d (all_acts ds) (all_acts es) (acts_said f.asked) (acts_said g.asked) acts_are acts2_are plain.same in
      record {
        same = same;
        bares = ap (map bare) is ∙ ap (λ l. record { steps = l; skips = []; entries = [] } ∷ []) (ap steps_in f.acts_are ∙ plain.same.steps ∙ sym (ap steps_in g.acts_are)) ∙ sym (ap (map bare) is2);
      }
  asked_same cap cup c d past false ds es p w w2 f g =
      record { same = same_as c d (all_acts ds) (all_acts es) [] [] (ap all_acts f) (ap all_acts g) (same_none c d p); bares = ap (map bare) f ∙ sym (ap (map bare) g) }

  pub begins_same : (cap cup : PipeId → ℕ) (c d : Control) (past : List PipeStep) (old : List ActorStanding) (ds es : List (Deed N S)) → blank c ≡ blank d
      → Walks cap c past (all_acts ds) → Walks cup d past (all_acts es) → Begins old ds → Begins old es → StepSame c d ds es
  begins_same cap cup c d past old (Looks m ∷ asks) (Looks n ∷ asks2) p w w2 f g =
      let seen : IsSeen c f.look.sight = subst (FitsItem c) f.look.item_is w.1 in
      let seen2 : IsSeen d g.look.sight = subst (FitsItem d) g.look.item_is w2.1 in
      let roots : f.look.sight.root ≡ g.look.sight.root = seen.root ∙ ap root_state p ∙ sym seen2.root in
      let c1 : Control = after_item m.item c in
      let d1 : Control = after_item n.item d in
      let states : blank c1 ≡ blank d1 = (same_look c d m n f.look.sight g.look.sight f.look.item_is g.look.item_is p).states in
      let rest = asked_same cap cup c1 d1 past (list_all has_finished old && is_live f.look.sight.root) asks asks2 states w.2 w2.2 f.asks_if
      (subst (λ root. AsksIf (list_all has_finished old && is_live root) asks2) (sym roots) g.asks_if) in
      record {
        same = record { steps = rest.same.steps; states = rest.same.states };
        bares = ap (λ l. record { steps = []; skips = []; entries = [] } ∷ l) rest.bares;
      }
  begins_same cap cup c d past old [] es p w w2 f g = absurd f
  begins_same cap cup c d past old (Tries t ∷ asks) es p w w2 f g = absurd f
  begins_same cap cup c d past old (Shuts acts ∷ asks) es p w w2 f g = absurd f
  begins_same cap cup c d past old (Fetches slot acts ∷ asks) es p w w2 f g = absurd f
  begins_same cap cup c d past old (Idles m ∷ asks) es p w w2 f g = absurd f
  begins_same cap cup c d past old (Works acts ∷ asks) es p w w2 f g = absurd f
  begins_same cap cup c d past old (AsksRoot acts ∷ asks) es p w w2 f g = absurd f
  begins_same cap cup c d past old (Reads now ∷ asks) es p w w2 f g = absurd f
  begins_same cap cup c d past old (Looks m ∷ asks) [] p w w2 f g = absurd g
  begins_same cap cup c d past old (Looks m ∷ asks) (Tries t ∷ asks2) p w w2 f g = absurd g
  begins_same cap cup c d past old (Looks m ∷ asks) (Shuts acts ∷ asks2) p w w2 f g = absurd g
  begins_same cap cup c d past old (Looks m ∷ asks) (Fetches slot acts ∷ asks2) p w w2 f g = absurd g
  begins_same cap cup c d past old (Looks m ∷ asks) (Idles n ∷ asks2) p w w2 f g = absurd g
  begins_same cap cup c d past old (Looks m ∷ asks) (Works acts ∷ asks2) p w w2 f g = absurd g
  begins_same cap cup c d past old (Looks m ∷ asks) (AsksRoot acts ∷ asks2) p w w2 f g = absurd g
  begins_same cap cup c d past old (Looks m ∷ asks) (Reads now ∷ asks2) p w w2 f g = absurd g
