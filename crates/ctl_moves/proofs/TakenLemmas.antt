-- The pairs that a bind has drawn so far, at the holder and in what is kept: one more, and one fewer.
use Rattle.std.specs.Prelude.{◌≡◌, ◌≢◌, ◌<◌, ◌≤◌, ◌+◌, ◌&&◌, ◌||◌, ◌++◌, ◌∷◌, [], ℕ, Bool, true, false, not, cond, List, Some, All, if◌then◌else◌, length, map, slice_index_or, refl}
use Rattle.std.proofs.Common.{arith, sym, ap, ◌∙◌, subst, inl, inr}
use Rattle.std.proofs.lemmas.Bool.{cases_eq, ne_eqb}
use Rattle.std.proofs.lemmas.List.{append-nil, append_assoc, length-set, length_push}
use Rattle.std.proofs.lemmas.List.Folds.{list_any-append}
use Rattle.std.proofs.lemmas.List.Elements.{All-cons, All-head, All-nil, All-pop, All-push, All-tail, filter-append}
use Rattle.zq_base.specs.declared.ids.EndId.{EndId}
use Rattle.spec_control.specs.declared.end.EndState.TheVariants.{Active}
use Rattle.spec_control.specs.Control.{is_end, same_side}
use Rattle.spec_control.specs.Held.{Held}
use Rattle.control_laws.proofs.AskLemmas.{end_self, same_end}
use Rattle.control_laws.proofs.ListLemmas.{never}
use Rattle.desk.specs.Holding.{HearsNone, BeginsNone, Holding, Left, Stays, has_end, without_end}
use Rattle.ctl_state.specs.declared.state.State.{State}
use Rattle.ctl_state.specs.Pairs.{entry_drawn}
use Rattle.ctl_moves.specs.declared.owners.Owners.{Owners}
use Rattle.ctl_moves.specs.Joined.{Gets}
use Rattle.ctl_moves.specs.Room.{HavePlaces, with_drawn}
use Rattle.ctl_moves.proofs.JoinedLemmas.{still_there}
use Rattle.ctl_moves.specs.declared.batch.Drawn.{Drawn}
use Rattle.ctl_moves.specs.Batch.{AreNumbered, drawn_all, held_of}
use Rattle.ctl_moves.specs.Drawing.{IsBack}

-- ---- numbers
-- ends of two pairs are two
pub other_pair : (d e : EndId) → d.pair.0 < e.pair.0 → is_end e d ≡ false
other_pair d e less = ap (λ (b : Bool). b && same_side e.a d.a) (ne_eqb e.pair.0 d.pair.0 (λ same. omega (arith, same, less)))

pub pair_other : (d e : EndId) → d.pair.0 < e.pair.0 → is_end d e ≡ false
pair_other d e less = ap (λ (b : Bool). b && same_side d.a e.a) (ne_eqb d.pair.0 e.pair.0 (λ same. omega (arith, same, less)))

module _ {N O I : Type 0} where
  pub numbered_push : (n : ℕ) (ds : List (Drawn N O I)) (d : Drawn N O I) → AreNumbered n ds → d.pair.0 ≡ n + length ds → AreNumbered n (ds ++ d ∷ [])
  numbered_push n [] d are is = (omega (arith, is), tt)
  numbered_push n (x ∷ ds) d are is = (are.0, numbered_push (n + 1) ds d are.1 (omega (arith, is)))

  pub numbered_first : (n : ℕ) (ds : List (Drawn N O I)) (d : Drawn N O I) → AreNumbered n (ds ++ d ∷ []) → AreNumbered n ds
  numbered_first n [] d are = tt
  numbered_first n (x ∷ ds) d are = (are.0, numbered_first (n + 1) ds d are.1)

  pub numbered_last : (n : ℕ) (ds : List (Drawn N O I)) (d : Drawn N O I) → AreNumbered n (ds ++ d ∷ []) → d.pair.0 ≡ n + length ds
  numbered_last n [] d are = let is = are.0 in omega (arith, is)
  numbered_last n (x ∷ ds) d are = let is = numbered_last (n + 1) ds d are.1 in omega (arith, is)

  pub all_below : (n : ℕ) (ds : List (Drawn N O I)) → AreNumbered n ds → (m : ℕ) → n + length ds ≤ m → All (λ (x : Held N). x.end.pair.0 < m) (map held_of ds)
  all_below n [] are m most = All-nil (λ (x : Held N). x.end.pair.0 < m)
  all_below n (d ∷ ds) are m most =
      All-cons (λ (x : Held N). x.end.pair.0 < m) (held_of d) (map held_of ds) (let is = are.0 in omega (arith, is, most)) (all_below (n + 1) ds are.1 m (omega (arith, most)))

  pub all_from : (n : ℕ) (ds : List (Drawn N O I)) → AreNumbered n ds → (m : ℕ) → m ≤ n → All (λ (d : Drawn N O I). m ≤ d.pair.0) ds
  all_from n [] are m less = All-nil (λ (d : Drawn N O I). m ≤ d.pair.0)
  all_from n (d ∷ ds) are m less =
      All-cons (λ (x : Drawn N O I). m ≤ x.pair.0) d ds (let is = are.0 in omega (arith, is, less)) (all_from (n + 1) ds are.1 m (omega (arith, less)))

  -- ---- what is kept
  pub drawn_last : {L : Type 0} (ds : List (Drawn N O I)) (d : Drawn N O I) (s : State L) → drawn_all (ds ++ d ∷ []) s ≡ with_drawn false d.o (drawn_all ds s)
  drawn_last [] d s = refl
  drawn_last (x ∷ ds) d s = drawn_last ds d (with_drawn false x.o s)

  pub drawn_boxes : {L : Type 0} (ds : List (Drawn N O I)) (s : State L) → length (drawn_all ds s).boxes ≡ length s.boxes
  drawn_boxes [] s = refl
  drawn_boxes (d ∷ ds) s = drawn_boxes ds (with_drawn false d.o s) ∙ (length-set _ d.o.last_slot.0 _ ∙ length-set s.boxes d.o.first_slot.0 _)

  pub drawn_lists : {L : Type 0} (ds : List (Drawn N O I)) (s : State L) → length (drawn_all ds s).objects.lists ≡ length s.objects.lists
  drawn_lists [] s = refl
  drawn_lists (d ∷ ds) s = drawn_lists ds (with_drawn false d.o s) ∙ (length-set _ d.o.last.0 _ ∙ length-set s.objects.lists d.o.first.0 _)

  pub drawn_pairs : {L : Type 0} (ds : List (Drawn N O I)) (s : State L) → length (drawn_all ds s).pairs ≡ length s.pairs + length ds
  drawn_pairs [] s = omega arith
  drawn_pairs (d ∷ ds) s = let rest = drawn_pairs ds (with_drawn false d.o s) in let one = length_push s.pairs (entry_drawn d.o.last d.o.first) in omega (arith, rest, one)

  pub drawn_places : {L : Type 0} (ds : List (Drawn N O I)) (s : State L) (o : Owners) → HavePlaces s o → HavePlaces (drawn_all ds s) o
  drawn_places ds s o p = record {
    first_box = subst (λ (n : ℕ). o.first_slot.0 < n) (sym (drawn_boxes ds s)) p.first_box;
    last_box = subst (λ (n : ℕ). o.last_slot.0 < n) (sym (drawn_boxes ds s)) p.last_box;
    first_list = subst (λ (n : ℕ). o.first.0 < n) (sym (drawn_lists ds s)) p.first_list;
    last_list = subst (λ (n : ℕ). o.last.0 < n) (sym (drawn_lists ds s)) p.last_list;
  }

pub or_right : (a b : Bool) → b ≡ true → (a || b) ≡ true
or_right true b is = refl
or_right false b is = is

-- ---- at the holder
module _ {N : Type 0} where
  -- ends of pairs below its own number are others
  pub not_among : (e : EndId) (hs : List (Held N)) → All (λ (x : Held N). x.end.pair.0 < e.pair.0) hs → has_end e hs ≡ false
  not_among e [] all = refl
  not_among e (x ∷ hs) all =
      ap (λ (b : Bool). b || has_end e hs) (other_pair x.end e (All-head (λ (y : Held N). y.end.pair.0 < e.pair.0) x hs all))
      ∙ not_among e hs (All-tail (λ (y : Held N). y.end.pair.0 < e.pair.0) x hs all)

  -- an end among them is of a lower pair too
  among_below : {m : ℕ} (e : EndId) (hs : List (Held N)) → All (λ (x : Held N). x.end.pair.0 < m) hs → has_end e hs ≡ true → e.pair.0 < m
  among_below e [] all here = absurd (never here)
  among_below {m} e (x ∷ hs) all here = by (is_end e x.end) refl here (λ rest. among_below e hs (All-tail (λ (y : Held N). y.end.pair.0 < m) x hs all) rest)
    where
      by : (b : Bool) → is_end e x.end ≡ b → (b || has_end e hs) ≡ true → (has_end e hs ≡ true → e.pair.0 < m) → e.pair.0 < m
      by true same h rest = subst (λ (d : EndId). d.pair.0 < m) (sym (same_end e x.end same)) (All-head (λ (y : Held N). y.end.pair.0 < m) x hs all)
      by false other h rest = rest h

  -- an end that is there, and is not the last, was there
  not_last : (o : ℕ) (x : Held N) (k l : Holding N) → l.ends o ≡ k.ends o ++ x ∷ [] → ((i : ℕ) → i ≢ o → l.ends i ≡ k.ends i) → (i : ℕ) (e : EndId) → is_end e x.end ≡ false → has_end e (l.ends i) ≡ true → has_end e (k.ends i) ≡ true
  not_last o x k l ends others i e other here =
      elim (cases_eq i o) [
        | inl same ↦
            subst (λ (m : ℕ). has_end e (k.ends m) ≡ true) (sym same)
            (only (has_end e (k.ends o)) (is_end e x.end) other (sym (list_any-append (λ (y : Held N). is_end e y.end) (k.ends o) (x ∷ [])) ∙ sym (ap (has_end e) ends) ∙ subst (λ (m : ℕ). has_end e (l.ends m) ≡ true) same here))
        | inr elsewhere ↦ sym (ap (has_end e) (others i elsewhere)) ∙ here
      ]
    where
      only : (a b : Bool) → b ≡ false → (a || (b || false)) ≡ true → a ≡ true
      only true b f g = refl
      only false true f g = absurd (never (sym f))
      only false false f g = g

  pub gets_more : (n o : ℕ) (hs : List (Held N)) (x : Held N) (h k l : Holding N) → n ≤ x.end.pair.0 → All (λ (y : Held N). y.end.pair.0 < x.end.pair.0) hs →
      Gets n o hs h k → Gets x.end.pair.0 o (x ∷ []) k l → Gets n o (hs ++ x ∷ []) h l
  gets_more n o hs x h k l past below first last = record {
    ends = last.ends ∙ ap (λ (ys : List (Held N)). ys ++ x ∷ []) first.ends ∙ append_assoc (h.ends o) hs (x ∷ []);
    others = λ i other. last.others i other ∙ first.others i other;
    objects = λ i. last.objects i ∙ first.objects i;
    kinds = λ i. last.kinds i ∙ first.kinds i;
    output = λ i. last.output i ∙ first.output i;
    writers = λ e less. last.writers e (omega (arith, less, past)) ∙ first.writers e less;
    mine = All-push (λ (y : Held N). l.writes y.end ≡ true) hs x (λ j y lt. last.writers _ (below j y lt) ∙ first.mine j y lt) (All-head (λ (y : Held N). l.writes y.end ≡ true) x [] last.mine);
    delimiters = λ i e here at. last.delimiters i e (still_there o hs h k first.ends first.others i e here) (first.delimiters i e here at);
    states = λ i e less here. last.states i e (omega (arith, less, past)) here ∙ first.states i e less (not_last o x k l last.ends last.others i e (pair_other e x.end (omega (arith, less, past))) here);
  }

  -- and the ends that came are Active
  pub active_more : (n o : ℕ) (hs : List (Held N)) (x : Held N) (h k l : Holding N) → All (λ (y : Held N). y.end.pair.0 < x.end.pair.0) hs →
      Gets n o hs h k → Gets x.end.pair.0 o (x ∷ []) k l → ((e : EndId) → has_end e hs ≡ true → k.state e ≡ Active) → l.state x.end ≡ Active → (e : EndId) → has_end e (hs ++ x ∷ []) ≡ true → l.state e ≡ Active
  active_more n o hs x h k l below first last active new e here =
      by (has_end e hs) (is_end e x.end) refl refl (sym (list_any-append (λ (y : Held N). is_end e y.end) hs (x ∷ [])) ∙ here)
    where
      old : has_end e hs ≡ true → l.state e ≡ Active
      old is =
          last.states o e (among_below e hs below is)
          (ap (has_end e) (last.ends ∙ ap (λ (ys : List (Held N)). ys ++ x ∷ []) first.ends ∙ append_assoc (h.ends o) hs (x ∷ []))
          ∙ list_any-append (λ (y : Held N). is_end e y.end) (h.ends o) (hs ++ x ∷ []) ∙ or_right (has_end e (h.ends o)) (has_end e (hs ++ x ∷ [])) here)
          ∙ active e is

      by : (a b : Bool) → has_end e hs ≡ a → is_end e x.end ≡ b → (a || (b || false)) ≡ true → l.state e ≡ Active
      by true b is other all = old is
      by false true is same all = ap l.state (same_end e x.end same) ∙ new
      by false false is other all = absurd (never all)

  -- a list without an end that is not in it
  without_none : (e : EndId) (hs : List (Held N)) → has_end e hs ≡ false → without_end e hs ≡ hs
  without_none e [] none = refl
  without_none e (x ∷ hs) none = by (is_end e x.end) (without_none e hs) none
    where
      by : (b : Bool) → (has_end e hs ≡ false → without_end e hs ≡ hs) → (b || has_end e hs) ≡ false → cond (not b) (x ∷ without_end e hs) (without_end e hs) ≡ x ∷ hs
      by true more h = absurd (never (sym h))
      by false more h = ap (λ (ys : List (Held N)). x ∷ ys) (more h)

  pub gets_less : (n o : ℕ) (hs : List (Held N)) (x : Held N) (h k l : Holding N) → n ≤ x.end.pair.0 → All (λ (y : Held N). y.end.pair.0 < x.end.pair.0) hs → has_end x.end (h.ends o) ≡ false →
      Gets n o (hs ++ x ∷ []) h k → Left o x.end k l → BeginsNone k l → Gets n o hs h l
  gets_less n o hs x h k l past below fresh gets left keeps = record {
    ends = ends_are;
    others = λ i other. left.now.others i other ∙ gets.others i other;
    objects = λ i. left.now.objects i ∙ gets.objects i;
    kinds = λ i. left.now.kinds i ∙ gets.kinds i;
    output = λ i. left.now.output i ∙ gets.output i;
    writers = λ e less. left.writers e ∙ ap (λ (b : Bool). if b then false else k.writes e) (pair_other e x.end (omega (arith, less, past))) ∙ gets.writers e less;
    mine = λ j y lt.
        (let e : EndId = (slice_index_or hs j y).end in
        left.writers e ∙ ap (λ (b : Bool). if b then false else k.writes e) (pair_other e x.end (below j y lt)) ∙ mine_before j y lt);
    delimiters = λ i e here at. left.now.delimiters i e (still_there o hs h l ends_are (λ j other. left.now.others j other ∙ gets.others j other) i e here) (gets.delimiters i e here at);
    states = λ i e less here.
        keeps.states i e here ∙ gets.states i e less (still_there o (x ∷ []) l k (gets.ends ∙ sym (append_assoc (h.ends o) hs (x ∷ [])) ∙ ap (λ (ys : List (Held N)). ys ++ x ∷ []) (sym ends_are)) (λ j other. sym (left.now.others j other)) i e here);
  }
    where
      ends_are : l.ends o ≡ h.ends o ++ hs
      ends_are =
          left.now.ends ∙ ap (without_end x.end) gets.ends ∙ filter-append (λ (y : Held N). not (is_end x.end y.end)) (h.ends o) (hs ++ x ∷ [])
          ∙ ap (λ (ys : List (Held N)). ys ++ without_end x.end (hs ++ x ∷ [])) (without_none x.end (h.ends o) fresh)
          ∙ ap (λ (ys : List (Held N)). h.ends o ++ ys) (
          filter-append (λ (y : Held N). not (is_end x.end y.end)) hs (x ∷ [])
          ∙ ap (λ (ys : List (Held N)). ys ++ without_end x.end (x ∷ [])) (without_none x.end hs (not_among x.end hs below))
          ∙ ap (λ (b : Bool). hs ++ cond (not b) (x ∷ []) []) (end_self x.end) ∙ append-nil hs
          )

      mine_before : All (λ (y : Held N). k.writes y.end ≡ true) hs
      mine_before = (All-pop (λ (y : Held N). k.writes y.end ≡ true) (hs ++ x ∷ []) hs (Some x) refl gets.mine).0

  -- all were taken back
  pub gets_none : (n o : ℕ) (h k : Holding N) → Gets n o [] h k → k.turns ≡ h.turns → k.sealed ≡ h.sealed → k.joined ≡ h.joined → HearsNone h k → IsBack n o h k
  gets_none n o h k gets turns sealed joined heard = record {
    now = record {
      ends = ends_are;
      others = gets.others;
      objects = gets.objects;
      kinds = gets.kinds;
      output = gets.output;
      delimiters = λ i e here at. gets.delimiters i e (sym (ap (has_end e) (same i)) ∙ here) at;
    };
    writers = gets.writers;
    states = gets.states;
    turns = turns;
    sealed = sealed;
    joined = joined;
    heard = heard;
  }
    where
      ends_are : k.ends o ≡ h.ends o
      ends_are = gets.ends ∙ append-nil (h.ends o)

      same : (i : ℕ) → k.ends i ≡ h.ends i
      same i =
          elim (cases_eq i o) [
            | inl is ↦ subst (λ (m : ℕ). k.ends m ≡ h.ends m) (sym is) ends_are
            | inr other ↦ gets.others i other
          ]

-- ---- a holder that is as it was
module _ {N : Type 0} where
  pub stays_itself : (o : ℕ) (h : Holding N) → Stays o h h
  stays_itself o h = record {
    now = record { ends = refl; others = λ i other. refl; objects = λ i. refl; kinds = λ i. refl; output = λ i. refl; delimiters = λ i e here at. at };
    writers = λ e. refl;
  }

  pub back_itself : (n o : ℕ) (h : Holding N) → IsBack n o h h
  back_itself n o h = record { now = (stays_itself o h).now; writers = λ e less. refl; states = λ i e less here. refl; turns = refl; sealed = refl; joined = refl; heard = refl }
