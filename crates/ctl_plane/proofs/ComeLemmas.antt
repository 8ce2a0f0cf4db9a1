-- The ends that join in an event, and the objects that their holder has behind it.
use Rattle.std.specs.Prelude.{◌≡◌, ◌≢◌, ◌⊎◌, ◌&&◌, ◌++◌, ◌∷◌, [], ℕ, Bool, true, false, List, flat_map, refl}
use Rattle.std.proofs.Common.{arith, sym, ap, ◌∙◌, subst, inl, inr}
use Rattle.std.proofs.lemmas.Bool.{cases_eq}
use Rattle.std.proofs.lemmas.List.{append-nil, append_cancel_left}
use Rattle.spec_control.specs.declared.entry.Did.{Did}
use Rattle.spec_control.specs.declared.entry.Joining.{Joining}
use Rattle.spec_control.specs.declared.stage.Use.{Use}
use Rattle.spec_control.specs.Stage.{is_coming}
use Rattle.spec_control.specs.Row.{is_socket, AsksOver, link_after}
use Rattle.spec_control.specs.Rows.{Rows, obj, with_object}
use Rattle.spec_control.specs.Control.{Control}
use Rattle.spec_control.specs.ControlRun.{IsOpenSocket, is_between}
use Rattle.spec_control.specs.After.{after}
use Rattle.control_laws.proofs.ListLemmas.{never, clash}
use Rattle.desk.specs.Holding.{HearsMore, HearsNone, HasGiven, Holding, JoinsBy}
use Rattle.zq_base.specs.declared.ids.EndId.{EndId}
use Rattle.zq_base.specs.declared.ids.Settled.{Settled}
use Rattle.desk.specs.Counts.{CountsIn, CountsOnce}
use Rattle.desk.specs.Output.{LeavesIn, LeavesOnce}
use Rattle.desk.specs.Joins.{IsReaped, IsTakenIn, JoinsIn, KeepsObjects, came_in}
use Rattle.ctl_moves.proofs.BetweenLemmas.{Stay, StayBetween, is_out, none_plugged, stay_here, written_stay}
use Rattle.ctl_moves.proofs.KeepLemmas.{all_kept}
use Rattle.ctl_plane.specs.Coming.{ComesWith}
use Rattle.ctl_plane.specs.Past.{Past, control_of, with_event}
use Rattle.ctl_plane.proofs.CloseLemmas.{closed_between, stays_between}
use Rattle.desk.specs.Heard.{ends_between, heard_by, heard_in, over_if, plug_by, term_with, HearsOnce}
use Rattle.desk.specs.declared.notice.Notice.{Notice}
use Rattle.zq_base.specs.declared.ids.ObjId.{ObjId}
use Rattle.spec_control.specs.declared.letter.Word.{Word}
use Rattle.spec_control.specs.declared.letter.Word.TheVariants.{Own, Plug, TermReq, Term, TermAck, PipeBind, PipeTerm, PipeTermAck, Stop, Reap}
use Rattle.ctl_plane.proofs.EventLemmas.{control_more}

none_more : {X : Type 0} {x : X} → [] ≡ x ∷ [] → ⊥
none_more f = grind arith

same_one : {X : Type 0} {x y : X} → x ∷ [] ≡ y ∷ [] → x ≡ y
same_one f = grind arith

-- what a command tells goes by the rows
pub heard_rows : (to : ObjId) (word : Word) (b c d : Control) → c.rows ≡ b.rows → heard_by to word c d ≡ heard_by to word b d
heard_rows to (Own child) b c d same = refl
heard_rows to (Plug end) b c d same = ap (λ (s : Rows). plug_by to s) same
heard_rows to (TermReq child) b c d same = refl
heard_rows to Term b c d same = ap (λ (s : Rows). term_with to (ends_between (obj s to.0) (obj d.rows to.0))) same
heard_rows to (TermAck child) b c d same = ap (λ (s : Rows). over_if to (ends_between (obj s to.0) (obj d.rows to.0))) same
heard_rows to (PipeBind e peer) b c d same = refl
heard_rows to (PipeTerm e) b c d same = refl
heard_rows to (PipeTermAck e) b c d same = ap (λ (s : Rows). over_if to (ends_between (obj s to.0) (obj d.rows to.0))) same
heard_rows to Stop b c d same = refl
heard_rows to (Reap socket) b c d same = refl

module _ {N S : Type 0} where
  one_comes : (before : List (Did N S)) (did : Did N S) (h k : Holding N) → JoinsBy (came_in did) h k → JoinsIn before (before ++ did ∷ []) h k
  one_comes before did h k came more is =
      subst (λ (ds : List (Did N S)). JoinsBy (flat_map came_in ds) h k) (append_cancel_left before (did ∷ []) more is)
      (came ∙ ap (λ (js : List (Joining N)). h.joined ++ js) (sym (append-nil (came_in did))))

  none_comes : (before : List (Did N S)) (h k : Holding N) → k.joined ≡ h.joined → JoinsIn before before h k
  none_comes before h k same more is =
      subst (λ (ds : List (Did N S)). JoinsBy (flat_map came_in ds) h k) (append_cancel_left before [] more (append-nil before ∙ is)) (same ∙ sym (append-nil h.joined))

module _ {N S : Type 0} (before : List (Did N S)) (c d : Control) (h k : Holding N) where
  one_hears : (did : Did N S) → HearsMore (heard_in did c d) h k → HearsOnce before (before ++ did ∷ []) c d h k
  one_hears did told = record {
    one = λ other is. subst (λ (x : Did N S). HearsMore (heard_in x c d) h k) (same_one (append_cancel_left before (did ∷ []) (other ∷ []) is)) told;
    none = λ is. absurd (none_more (sym (append_cancel_left before (did ∷ []) [] (is ∙ sym (append-nil before)))));
  }

  none_hears : HearsNone h k → HearsOnce before before c d h k
  none_hears same = record { one = λ did is. absurd (none_more (append_cancel_left before [] (did ∷ []) (append-nil before ∙ is))); none = λ is. same }

module _ {N S O : Type 0} (out_name : O → N) (counts : EndId → O → Settled) (before : List (Did N S)) (h : Holding N) where
  -- the counts that are told in an event more, and in none
  pub one_counts : (did : Did N S) → CountsIn out_name counts h did → CountsOnce out_name counts before (before ++ did ∷ []) h
  one_counts did told other is = subst (λ (d : Did N S). CountsIn out_name counts h d) (same_one (append_cancel_left before (did ∷ []) (other ∷ []) is)) told

  pub none_counts : CountsOnce out_name counts before before h
  none_counts did is = absurd (none_more (append_cancel_left before [] (did ∷ []) (append-nil before ∙ is)))

module _ {N S : Type 0} (c : Control) (before : List (Did N S)) (h : Holding N) where
  -- what is told of output left in an event more, and in none
  pub one_leaves : (did : Did N S) → LeavesIn c h did → LeavesOnce c before (before ++ did ∷ []) h
  one_leaves did told other is = subst (λ (d : Did N S). LeavesIn c h d) (same_one (append_cancel_left before (did ∷ []) (other ∷ []) is)) told

  pub none_leaves : LeavesOnce c before before h
  none_leaves did is = absurd (none_more (append_cancel_left before [] (did ∷ []) (append-nil before ∙ is)))

module _ {G N S : Type 0} (p : Past G N S) where
  -- nothing happened
  pub past_comes : (h k : Holding N) → k.joined ≡ h.joined → ((i : ℕ) → k.holds i ≡ h.holds i) → ((i : ℕ) → k.kind i ≡ h.kind i) → HearsNone h k → ComesWith p p h k
  past_comes h k joined holds kinds heard = (none_comes p.events h k joined, all_kept (control_of p) (control_of p) h k holds kinds (stay_here (control_of p).rows), none_hears p.events (control_of p) (control_of p) h k heard)

  -- an event in which the holder's objects stay
  pub event_comes : (did : Did N S) (h k : Holding N) → JoinsBy (came_in did) h k → ((i : ℕ) → k.holds i ≡ h.holds i) → ((i : ℕ) → k.kind i ≡ h.kind i) → StayBetween (control_of p).rows (after did (control_of p)).rows →
      ((b n : Control) → heard_in did b n ≡ []) → HearsNone h k → ComesWith p (with_event did p) h k
  event_comes did h k came holds kinds still none heard = (
    one_comes p.events did h k came,
    all_kept (control_of p) (control_of (with_event did p)) h k holds kinds (subst (λ (d : Control). StayBetween (control_of p).rows d.rows) (sym (control_more p did)) still),
    one_hears p.events (control_of p) (control_of (with_event did p)) h k did (heard ∙ sym (ap (λ (ns : List Notice). h.heard ++ ns) (none (control_of p) (control_of (with_event did p))) ∙ append-nil h.heard)),
  )

  -- an event of which the holder was told nothing
  pub aside_comes : (did : Did N S) (h k : Holding N) → came_in did ≡ [] → k.joined ≡ h.joined → ((i : ℕ) → k.holds i ≡ h.holds i) → ((i : ℕ) → k.kind i ≡ h.kind i) → StayBetween (control_of p).rows (after did (control_of p)).rows →
      ((b n : Control) → heard_in did b n ≡ []) → HearsNone h k → ComesWith p (with_event did p) h k
  aside_comes did h k none same holds kinds still untold heard = event_comes did h k (same ∙ sym (ap (λ (js : List (Joining N)). h.joined ++ js) none ∙ append-nil h.joined)) holds kinds still untold heard

  -- an event in which objects may have gone or come
  pub objects_come : (did : Did N S) (h k : Holding N) → JoinsBy (came_in did) h k → KeepsObjects (control_of p) (after did (control_of p)) h k → HearsMore (heard_in did (control_of p) (after did (control_of p))) h k → ComesWith p (with_event did p) h k
  objects_come did h k came keeps heard = (
    one_comes p.events did h k came,
    subst (λ (d : Control). KeepsObjects (control_of p) d h k) (sym (control_more p did)) keeps,
    one_hears p.events (control_of p) (control_of (with_event did p)) h k did (subst (λ (d : Control). HearsMore (heard_in did (control_of p) d) h k) (sym (control_more p did)) heard),
  )

-- a socket that is closed goes with its ends
pub close_keeps : {N : Type 0} (c d : Control) (o : ℕ) (h k : Holding N) → d.rows ≡ with_object o (link_after AsksOver (obj c.rows o)) c.rows → IsOpenSocket (obj c.rows o) → HasGiven o h k → KeepsObjects c d h k
close_keeps c d o h k rows is_open gone = record {
  holds = λ i stays. other i stays.way {Q = λ n. k.holds n ≡ h.holds n} (λ n ne. (gone.others n ne).0);
  kinds = λ i stays. other i stays.way {Q = λ n. k.kind n ≡ h.kind n} (λ n ne. (gone.others n ne).1.1);
  had = λ i has. before i has (cases_eq i o);
  reaped = λ i between taken lives. absurd (clash _ (subst (λ (s : Rows). is_between (obj s i) ≡ true) (sym rows) (stays_between c o is_open i between)) taken);
  taken_in = λ i came. absurd (clash _ came (none_plugged c.rows d.rows out i));
}
  where
    -- whose Plug is on its way waits still
    out : Stay is_out c.rows d.rows
    out = subst (λ (s : Rows). Stay is_out c.rows s) (sym rows) (written_stay is_out refl c.rows o (link_after AsksOver (obj c.rows o)) (λ so. so))

    before : (i : ℕ) → k.holds i ≡ true → (i ≡ o) ⊎ (i ≡ o → ⊥) → ((h.holds i ≡ true) × (k.kind i ≡ h.kind i)) ⊎ (IsReaped (obj c.rows i) (obj d.rows i) (k.kind i) ⊎ IsTakenIn (obj c.rows i) (obj d.rows i) (k.kind i))
    before i has (inl same) = absurd (never (sym gone.gone ∙ ap k.holds (sym same) ∙ has))
    before i has (inr ne) = inl (sym (gone.others i ne).0 ∙ has, (gone.others i ne).1.1)

    none : (b : Bool) → (b && false) ≡ false
    none true = refl
    none false = refl

    was_not : is_between (obj c.rows o) ≡ false
    was_not = ap (λ (u : Use). is_socket (obj c.rows o).kind && is_coming u) is_open.open_still ∙ none (is_socket (obj c.rows o).kind)

    between : is_between (obj d.rows o) ≡ true
    between = subst (λ (s : Rows). is_between (obj s o) ≡ true) (sym rows) (closed_between c o is_open)

    other : (i : ℕ) → is_between (obj d.rows i) ≡ is_between (obj c.rows i) → {Q : ℕ → Type 0} → ((n : ℕ) → n ≢ o → Q n) → Q i
    other i way rest =
        elim (cases_eq i o) [
          | inl same ↦ absurd (never (sym (subst (λ (n : ℕ). is_between (obj c.rows n) ≡ false) (sym same) was_not) ∙ sym way ∙ subst (λ (n : ℕ). is_between (obj d.rows n) ≡ true) (sym same) between))
          | inr ne ↦ rest i ne
        ]
