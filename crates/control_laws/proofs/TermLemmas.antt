-- What is kept where an object processes its Term: its names leave, its ends are asked, its children told, and it tries to end.
use Rattle.std.specs.Prelude.{◌≡◌, ◌≢◌, ◌<◌, ◌==◌, ◌&&◌, ℕ, zero, suc, Bool, true, false, not, cond, List, [], ◌∷◌, filter, Option, Some, None, All, length, slice_index_or, if◌then◌else◌, refl}
use Rattle.std.proofs.Common.{arith, length-set, sym, ap, ◌∙◌, subst, inl, inr}
use Rattle.std.proofs.lemmas.List.{get_or-set_same, get_or-set_other}
use Rattle.std.proofs.lemmas.Bool.{eq-eqb, cases_eq, cases_order}
use Rattle.zq_base.specs.declared.ids.EndId.{EndId}
use Rattle.spec_control.specs.declared.book.Binding.{Binding}
use Rattle.spec_control.specs.declared.book.Waiting.{Waiting}
use Rattle.spec_control.specs.EndpointBook.{is_object, is_waiter}
use Rattle.spec_control.specs.Register.{Register, unless_held_by, without_names_of}
use Rattle.spec_control.specs.declared.letter.Letter.{Letter}
use Rattle.spec_control.specs.declared.letter.Word.TheVariants.{Term}
use Rattle.spec_control.specs.declared.stage.Stage.{Stage}
use Rattle.spec_control.specs.declared.stage.Stage.TheVariants.{Alive, Told, Ending, Finished, Cleared}
use Rattle.spec_control.specs.Stage.{is_alive, is_told, is_finished, was_asked, is_coming}
use Rattle.spec_control.specs.Place.{is_here, was_ended}
use Rattle.spec_control.specs.Row.{Row, nobody, is_socket, is_unowned, reads_on, IsTold, TermComes, link_may, link_after}
use Rattle.spec_control.specs.Rows.{Rows, PairRow, no_pair, obj, pair, with_object, end_place, end_owner, is_owner}
use Rattle.spec_control.specs.Control.{Control, id, end_of, place_of, owner_of, put, link, tell_where, tell_children, ask_all, ends_of}
use Rattle.spec_control.specs.After.{Answers, owner_or_root, processed, without_front, without_names, term_reason, term_delay}
use Rattle.control_laws.specs.Mail.{TermSign, DownLink, down_marks, queue, slot_of}
use Rattle.control_laws.specs.Kept.{IsUnasked, NamesAreOpen, KeptBut, Kept}
use Rattle.control_laws.proofs.ListLemmas.{never, clash, left, right, is_false, and}
use Rattle.control_laws.proofs.ClosedLemmas.{Inv, has_owner}
use Rattle.control_laws.proofs.MailLemmas.{Oldest}
use Rattle.control_laws.proofs.FrontLemmas.{up_list, term_front}
use Rattle.control_laws.proofs.StepLemmas.{inv_of, link_there, rows_link}
use Rattle.control_laws.proofs.PutLemmas.{rows_queues, downward_now, object_now}
use Rattle.control_laws.proofs.TellLemmas.{rows_of, kept_of, stays_there, tell_children_kept}
use Rattle.control_laws.proofs.HearLemmas.{absent_ended}
use Rattle.control_laws.proofs.AskLemmas.{AskLeaves, ask_all_leaves, ask_all_ended, ask_all_kept, ends_owned, among_ends}
use Rattle.control_laws.proofs.EndLemmas.{AtOnce, kept_but, try_end_kept}
use Rattle.control_laws.proofs.ChildLemmas.{no_socket}
use Rattle.control_laws.proofs.DeliverLemmas.{inv, first_of, left_over}

-- ---- names
none_below : {k : ℕ} → k < 0 → ⊥
none_below h = omega arith

pub all_filter : {X : Type 0} (P Q : X → Type 0) (test : X → Bool) → ((x : X) → P x → test x ≡ true → Q x) → (xs : List X) → All P xs → All Q (filter test xs)
all_filter P Q test f [] all = λ k d within. absurd (none_below within)
all_filter P Q test f (x ∷ xs) all = by (all_filter P Q test f xs (λ k d within. all (suc k) d (omega (arith, within)))) (test x) refl
  where
    by : All Q (filter test xs) → (t : Bool) → test x ≡ t → All Q (cond t (x ∷ filter test xs) (filter test xs))
    by rest false e = rest
    by rest true e = head rest
      where
        head : All Q (filter test xs) → All Q (x ∷ filter test xs)
        head rest zero d within = f x (all zero x (omega arith)) e
        head rest (suc k) d within = rest k d (omega (arith, within))

-- what is left of the names once those of an object are gone
still_held : (i : ℕ) (b : Option Binding) (x : Binding) → unless_held_by (id i) b ≡ Some x → (b ≡ Some x) × (x.holder.0 ≢ i)
still_held i None x h = absurd (no h)
  where
    no : None ≡ Some x → ⊥
    no e = Prim.grind arith
still_held i (Some y) x h = by (is_object y.holder (id i)) refl h
  where
    no : None ≡ Some x → ⊥
    no e = Prim.grind arith

    same : Some y ≡ Some x → y ≡ x
    same e = Prim.grind arith

    by : (t : Bool) → is_object y.holder (id i) ≡ t → cond t None (Some y) ≡ Some x → (Some y ≡ Some x) × (x.holder.0 ≢ i)
    by true e g = absurd (no g)
    by false e g = (g, λ here. clash (y.holder.0 == i) (eq-eqb y.holder.0 i (ap (λ (z : Binding). z.holder.0) (same g) ∙ here)) e)

names_left : (s t : Rows) (i : ℕ) (names : Register) → ((j : ℕ) → j ≢ i → IsUnasked s j → IsUnasked t j) → NamesAreOpen s names → NamesAreOpen t (without_names_of (id i) names)
names_left s t i names keeps n = record {
  holders = λ at binding is. let was = still_held i (names.held at) binding is in keeps binding.holder.0 was.1 (n.holders at binding was.0);
  waiters = all_filter (λ (w : Waiting). IsUnasked s w.waiter.0) (λ (w : Waiting). IsUnasked t w.waiter.0) (λ w. not (is_waiter (id i) w))
      (λ w u h. keeps w.waiter.0 (λ here. clash (w.waiter.0 == i) (eq-eqb w.waiter.0 i here) (is_false _ h)) u) names.waiting n.waiters;
}

-- ---- children that are told one after the other
record ToldBelow (n at : ℕ) (c t : Control) : Type 0 where
  pairs : t.rows.pairs ≡ c.rows.pairs
  many : length t.rows.objects ≡ length c.rows.objects
  owner : (i : ℕ) → (obj t.rows i).owner ≡ (obj c.rows i).owner
  kind : (i : ℕ) → (obj t.rows i).kind ≡ (obj c.rows i).kind
  noted : (i : ℕ) → (obj t.rows i).noted ≡ (obj c.rows i).noted
  same : (i : ℕ) → is_alive (obj c.rows i).stage ≡ false → obj t.rows i ≡ obj c.rows i
  unalive : (i : ℕ) → is_alive (obj c.rows i).stage ≡ false → is_alive (obj t.rows i).stage ≡ false
  told : (d : ℕ) → d < n → (obj c.rows d).owner ≡ Some at → (obj c.rows d).noted ≡ true → is_socket (obj c.rows d).kind ≡ false → is_alive (obj t.rows d).stage ≡ false

one_told : (n at : ℕ) (c t : Control) → ToldBelow n at c t → n < length c.rows.objects → ToldBelow (suc n) at c (tell_where (is_owner at (obj t.rows n).owner && (obj t.rows n).noted) n t)
one_told n at c t so_far within = by ((is_owner at (obj t.rows n).owner && (obj t.rows n).noted) && link_may IsTold (obj t.rows n)) refl
  where
    there : n < length t.rows.objects
    there = subst (λ (m : ℕ). n < m) (sym so_far.many) within

    told_row : Row
    told_row = link_after IsTold (obj t.rows n)

    rows : (i : ℕ) → (i ≡ n → ⊥) → obj (with_object n (link_after IsTold (obj t.rows n)) t.rows) i ≡ obj t.rows i
    rows i other = get_or-set_other t.rows.objects n i (link_after IsTold (obj t.rows n)) nobody other

    row_n : obj (with_object n (link_after IsTold (obj t.rows n)) t.rows) n ≡ link_after IsTold (obj t.rows n)
    row_n = get_or-set_same t.rows.objects n (link_after IsTold (obj t.rows n)) nobody there

    field : {X : Type 0} (f : Row → X) → f (link_after IsTold (obj t.rows n)) ≡ f (obj t.rows n) → (i : ℕ) → f (obj (with_object n (link_after IsTold (obj t.rows n)) t.rows) i) ≡ f (obj t.rows i)
    field f e i =
        elim (cases_eq i n) [
          | inl here ↦ ap (λ (j : ℕ). f (obj (with_object n (link_after IsTold (obj t.rows n)) t.rows) j)) here ∙ ap f row_n ∙ e ∙ ap (λ (j : ℕ). f (obj t.rows j)) (sym here)
          | inr other ↦ ap f (rows i other)
        ]

    not_alive : (i : ℕ) → is_alive (obj t.rows i).stage ≡ false → is_alive (obj (with_object n (link_after IsTold (obj t.rows n)) t.rows) i).stage ≡ false
    not_alive i h =
        elim (cases_eq i n) [
          | inl here ↦ ap (λ (j : ℕ). is_alive (obj (with_object n (link_after IsTold (obj t.rows n)) t.rows) j).stage) here ∙ ap (λ (o : Row). is_alive o.stage) row_n
          | inr other ↦ ap (λ (o : Row). is_alive o.stage) (rows i other) ∙ h
        ]

    by : (x : Bool) → ((is_owner at (obj t.rows n).owner && (obj t.rows n).noted) && link_may IsTold (obj t.rows n)) ≡ x → ToldBelow (suc n) at c (if x then put n Term (link IsTold n t) else t)
    by true e = record {
      pairs = so_far.pairs;
      many = length-set t.rows.objects n (link_after IsTold (obj t.rows n)) ∙ so_far.many;
      owner = λ i. field (λ o. o.owner) refl i ∙ so_far.owner i;
      kind = λ i. field (λ o. o.kind) refl i ∙ so_far.kind i;
      noted = λ i. field (λ o. o.noted) refl i ∙ so_far.noted i;
      same = λ i h.
          let was = so_far.same i h in
          rows i (λ here. clash (is_alive (obj t.rows n).stage) (left _ _ (right (is_owner at (obj t.rows n).owner && (obj t.rows n).noted) _ e)) (subst (λ (j : ℕ). is_alive (obj t.rows j).stage ≡ false) here (ap (λ (o : Row). is_alive o.stage) was ∙ h))) ∙ was;
      unalive = λ i h. not_alive i (so_far.unalive i h);
      told = told;
    }
      where
        told : (d : ℕ) → d < suc n → (obj c.rows d).owner ≡ Some at → (obj c.rows d).noted ≡ true → is_socket (obj c.rows d).kind ≡ false → is_alive (obj (with_object n (link_after IsTold (obj t.rows n)) t.rows) d).stage ≡ false
        told d below of noted k =
            elim (cases_eq d n) [
              | inl here ↦ ap (λ (j : ℕ). is_alive (obj (with_object n (link_after IsTold (obj t.rows n)) t.rows) j).stage) here ∙ ap (λ (o : Row). is_alive o.stage) row_n
              | inr other ↦ not_alive d (so_far.told d (less d n below other) of noted k)
            ]
          where
            less : (d n : ℕ) → d < suc n → d ≢ n → d < n
            less d n h k =
                elim (cases_order d n) [
                  | inl same ↦ absurd (k same)
                  | inr (inl below) ↦ below
                  | inr (inr above) ↦ absurd (past h above)
                ]
              where
                past : d < suc n → n < d → ⊥
                past h above = omega (arith, h, above)
    by false e = record {
      pairs = so_far.pairs;
      many = so_far.many;
      owner = so_far.owner;
      kind = so_far.kind;
      noted = so_far.noted;
      same = so_far.same;
      unalive = so_far.unalive;
      told = told;
    }
      where
        told : (d : ℕ) → d < suc n → (obj c.rows d).owner ≡ Some at → (obj c.rows d).noted ≡ true → is_socket (obj c.rows d).kind ≡ false → is_alive (obj t.rows d).stage ≡ false
        told d below of noted k =
            elim (cases_eq d n) [
              | inl here ↦
                  let owned = ap (is_owner at) (ap (λ (j : ℕ). (obj t.rows j).owner) (sym here) ∙ so_far.owner d ∙ of) ∙ eq-eqb at at refl in
                  let known = ap (λ (j : ℕ). (obj t.rows j).noted) (sym here) ∙ so_far.noted d ∙ noted in
                  let kind = ap is_socket (ap (λ (j : ℕ). (obj t.rows j).kind) (sym here) ∙ so_far.kind d) ∙ k in
                  ap (λ (j : ℕ). is_alive (obj t.rows j).stage) here ∙ not_may (is_owner at (obj t.rows n).owner) (obj t.rows n).noted (is_alive (obj t.rows n).stage) (is_socket (obj t.rows n).kind) owned known kind e
              | inr other ↦ so_far.told d (less d n below other) of noted k
            ]
          where
            not_may : (o n a s : Bool) → o ≡ true → n ≡ true → s ≡ false → ((o && n) && (a && not s)) ≡ false → a ≡ false
            not_may true true false s x y z h = refl
            not_may true true true false x y z h = absurd (never (sym h))
            not_may true true true true x y z h = absurd (never (sym z))
            not_may false n a s x y z h = absurd (never x)
            not_may true false a s x y z h = absurd (never y)

            less : (d n : ℕ) → d < suc n → d ≢ n → d < n
            less d n h k =
                elim (cases_order d n) [
                  | inl same ↦ absurd (k same)
                  | inr (inl below) ↦ below
                  | inr (inr above) ↦ absurd (past h above)
                ]
              where
                past : d < suc n → n < d → ⊥
                past h above = omega (arith, h, above)

below_told : (n at : ℕ) (c : Control) → n < suc (length c.rows.objects) → ToldBelow n at c (tell_children n at c)
below_told zero at c within = record {
  pairs = refl;
  many = refl;
  owner = λ i. refl;
  kind = λ i. refl;
  noted = λ i. refl;
  same = λ i h. refl;
  unalive = λ i h. h;
  told = λ d below. absurd (none below);
}
  where
    none : {d : ℕ} → d < 0 → ⊥
    none h = omega arith
below_told (suc n) at c within = one_told n at c (tell_children n at c) (below_told n at c (omega (arith, within))) (omega (arith, within))

-- ---- a Term
module _ (c : Control) (kept : Kept c) (slot : ℕ) (rest : List Letter) (at : ℕ) (h : Answers) (is : c.boxes slot ≡ record { to = id at; word = Term } ∷ rest) where
  first : Oldest (slot_of c.rows) (queue c.rows) c.boxes slot rest (DownLink at) (record { to = at; sign = TermSign })
  first = first_of c kept slot rest (record { to = id at; word = Term }) is (DownLink at) (record { to = at; sign = TermSign }) (λ link. refl)

  front : ((obj c.rows at).plugged ≡ true) × (is_coming (obj c.rows at).stop ≡ false) × (is_told (obj c.rows at).stage ≡ true) × (down_marks at (link_after TermComes (obj c.rows at)) ≡ first.behind)
  front = term_front at (obj c.rows at).plugged (is_coming (obj c.rows at).stop) (is_told (obj c.rows at).stage) at first.behind first.is_first

  may_so : link_may TermComes (obj c.rows at) ≡ true
  may_so = and _ _ front.2 (and _ _ front.0 (ap not front.1))

  all_fits : Inv c.rows
  all_fits = inv c kept slot rest

  there : at < length c.rows.objects
  there = link_there c.rows at TermComes all_fits may_so

  told_unfinished : (s : Stage) → is_told s ≡ true → is_finished s ≡ false
  told_unfinished Told e = refl
  told_unfinished Alive e = absurd (never e)
  told_unfinished Ending e = absurd (never e)
  told_unfinished Finished e = absurd (never e)
  told_unfinished Cleared e = absurd (never e)

  row_at : obj (with_object at (link_after TermComes (obj c.rows at)) c.rows) at ≡ link_after TermComes (obj c.rows at)
  row_at = get_or-set_same c.rows.objects at (link_after TermComes (obj c.rows at)) nobody there

  abbrev asked : Control
  asked = without_names at (link TermComes at (without_front slot c))

  one : KeptBut at asked
  unfolding first
  one =
      kept_of at asked (rows_link at c.rows c.output_left at TermComes (rows_of (kept_but at c kept)) may_so refl)
      (object_now c.rows at (link_after TermComes (obj c.rows at)) _ _ _ _ (stays_there c.rows at TermComes there)
      (downward_now c.rows at _ _ first.behind (queue c.rows) (rows_queues c.rows at))
      (left_over c kept slot rest (record { to = id at; word = Term }) is (DownLink at) (record { to = at; sign = TermSign }) (λ link. refl))
      (ap (λ (b : Bool). up_list (is_socket (obj c.rows at).kind) (owner_or_root (obj c.rows at).owner) (obj c.rows at).noted (is_coming (obj c.rows at).request) (b && not (is_unowned (obj c.rows at).owner))) (told_unfinished (obj c.rows at).stage front.2))
      (sym front.3))
      kept.listed
      (names_left c.rows (with_object at (link_after TermComes (obj c.rows at)) c.rows) at c.names
      (λ j other u. let row = get_or-set_other c.rows.objects at j (link_after TermComes (obj c.rows at)) nobody other in
      record { socket = ap (λ (o : Row). is_socket o.kind) row ∙ u.socket; unasked = ap (λ (o : Row). was_asked o.stage) row ∙ u.unasked }) kept.names)

  abbrev on : Bool
  on = reads_on (obj c.rows at)

  abbrev all_asked : Control
  all_asked = ask_all (term_reason (obj c.rows at).kind) (term_delay (obj c.rows at)) (ends_of at asked) asked

  two : KeptBut at all_asked
  two = ask_all_kept at (term_reason (obj c.rows at).kind) (term_delay (obj c.rows at)) on (λ e. e) (ends_of at asked) asked one (ends_owned at asked asked.attached)

  leaves : AskLeaves on asked all_asked
  leaves = ask_all_leaves (term_reason (obj c.rows at).kind) (term_delay (obj c.rows at)) on (λ e. e) (ends_of at asked) asked

  ended : (e : EndId) → owner_of asked e ≡ at → was_ended on (place_of all_asked e) ≡ true
  ended e of = by (is_here (place_of asked e)) refl
    where
      by : (x : Bool) → is_here (place_of asked e) ≡ x → was_ended on (place_of all_asked e) ≡ true
      by true here =
          ask_all_ended (term_reason (obj c.rows at).kind) (term_delay (obj c.rows at)) on (λ e. e) (ends_of at asked) asked e
          (among_ends at asked e asked.attached of (one.listed e.pair.0 e.a here))
      by false gone = leaves.ended e (absent_ended on (place_of asked e) gone)

  abbrev all_told : Control
  all_told = tell_children (length all_asked.rows.objects) at all_asked

  told : ToldBelow (length all_asked.rows.objects) at all_asked all_told
  told = below_told (length all_asked.rows.objects) at all_asked (omega arith)

  three : KeptBut at all_told
  three = tell_children_kept at (length all_asked.rows.objects) all_asked two

  row_asked : obj all_asked.rows at ≡ link_after TermComes (obj c.rows at)
  row_asked = ap (λ (l : List Row). slice_index_or l at nobody) leaves.objects ∙ row_at

  row_told : obj all_told.rows at ≡ link_after TermComes (obj c.rows at)
  row_told = told.same at (ap (λ (o : Row). is_alive o.stage) row_asked) ∙ row_asked

  now : AtOnce at all_told.rows
  now = record { ends = ends; children = children }
    where
      ends : (k : ℕ) (a : Bool) → end_owner (pair all_told.rows k) a ≡ at → was_asked (obj all_told.rows at).stage ≡ true → was_ended (reads_on (obj all_told.rows at)) (end_place (pair all_told.rows k) a) ≡ true
      ends k a of g =
          let same = ap (λ (l : List PairRow). slice_index_or l k no_pair) told.pairs in
          ap (λ (o : Row). was_ended (reads_on o) (end_place (pair all_told.rows k) a)) row_told
          ∙ ap (λ (p : PairRow). was_ended on (end_place p a)) same
          ∙ ended (end_of k a) (sym (leaves.owners (end_of k a)) ∙ sym (ap (λ (p : PairRow). end_owner p a) same) ∙ of)

      children : (d : ℕ) → at ≢ 0 → (obj all_told.rows d).owner ≡ Some at → was_asked (obj all_told.rows at).stage ≡ true → (obj all_told.rows d).noted ≡ true → is_alive (obj all_told.rows d).stage ≡ false
      children d below of g noted =
          let owned = sym (told.owner d) ∙ of in
          told.told d (has_owner all_asked.rows.objects at d owned) owned (sym (told.noted d) ∙ noted) (no_socket all_asked.rows d at (inv_of (rows_of two)) owned below)

  pub term_kept : Kept (processed at Term h (without_front slot c))
  term_kept = try_end_kept at h.left all_told three now
