-- The places of the ends that joined an object in a call.
use Rattle.std.proofs.Common.{◌≡◌, ◌≤◌, ◌<◌, ◌∙◌, ◌++◌, ℕ, Bool, true, false, List, [], ◌∷◌, All, Option, Some, length, map, refl, sym, ap, subst, inl, inr, arith, true≢false}
use Rattle.std.specs.List.{list_any}
use Rattle.std.proofs.Math.Logic.{∥∥₁_map}
use Rattle.std.proofs.lemmas.Bool.{cases_order}
use Rattle.std.proofs.lemmas.List.Elements.{All-nil, All-cons}
use Rattle.zq_base.specs.declared.ids.EndId.{EndId}
use Rattle.zq_base.specs.Ends.{PipeId, other_end}
use Rattle.spec_control.specs.declared.entry.Item.{Item}
use Rattle.spec_control.specs.declared.entry.Joining.{Joining}
use Rattle.spec_control.specs.Place.{is_here}
use Rattle.spec_control.specs.Control.{Control, begun, is_end, place_of}
use Rattle.spec_control.specs.ControlRun.{IsControlRun, after_all}
use Rattle.spec_control.specs.Held.{Held}
use Rattle.control_laws.specs.AttachedOnce.{AreOnce}
use Rattle.control_laws.proofs.RootLemmas.{runs_are_kept}
use Rattle.msg_pipe.specs.Known.{Known}
use Rattle.end_table.proofs.RowLemmas.{some_same}
use Rattle.desk.specs.Holding.{Holding}
use Rattle.desk.specs.Lent.{HasBothNames, HasEnds}
use Rattle.end_table.specs.declared.changes.PipeChange.{PipeChange}
use Rattle.end_table.specs.declared.table.Place.{Place}
use Rattle.end_table.specs.Changes.{made_last, AreMadeFor, IsMadeAt}
use Rattle.end_table.specs.Others.{IsLess, KeepsPlaces}
use Rattle.end_table.specs.Places.{place_at, held_of, held_in}
use Rattle.sock_core.specs.Came.{IsOneOf, JoinedAt, HasCome}
use Rattle.sock_core.specs.Way.{oldest_first}
use Rattle.socket_laws.specs.Places.{is_end_of, HasPlaces}
use Rattle.socket_laws.proofs.PlaceLemmas.{Stood, stood, HeldAs, held_as, held_among, any_ends, gone_is, gone_run, its_there, held_here, here_is, both_names, run_on, led_on}
use Rattle.socket_laws.proofs.OnceLemmas.{is_false, ends_of_all, any_one, any_oldest, one_place}
use Rattle.socket_laws.proofs.DeskJoinLemmas.{AreJoined}

-- what is so of each of them is so of all
pub all_of : {A : Type 0} (P : A → Type 0) (xs : List A) → ((a : A) → IsOneOf xs a → P a) → All P xs
all_of P [] f = All-nil P
all_of P (x ∷ xs) f = All-cons P x xs (f x (inl refl)) (all_of P xs (λ a one. f a (inr one)))

module _ {N T I : Type 0} (io : ℕ) (items more : List (Item N T)) (run : IsControlRun (begun io) items) (on : IsControlRun (after_all items (begun io)) more) (o : ℕ)
    (names said : PipeId → Option N) (had has : Holding N)
    (had_ends : HasEnds names (after_all items (begun io)).rows.pairs (after_all items (begun io)).attached (after_all items (begun io)).reasons had o)
    (has_ends : HasEnds said (after_all more (after_all items (begun io))).rows.pairs (after_all more (after_all items (begun io))).attached (after_all more (after_all items (begun io))).reasons has o)
    (was ps : List (Place N I)) (had_places : HasPlaces had o was) (has_places : HasPlaces has o ps) (keeps : KeepsPlaces was ps)
    (js : List (Joining N)) (joined : AreJoined js (had.ends o) (has.ends o)) where
  abbrev c : Control
  c = after_all items (begun io)

  all : IsControlRun (begun io) (items ++ more)
  all = run_on items more (begun io) run on

  has_all : HasEnds said (after_all (items ++ more) (begun io)).rows.pairs (after_all (items ++ more) (begun io)).attached (after_all (items ++ more) (begun io)).reasons has o
  has_all = subst (λ (d : Control). HasEnds said d.rows.pairs d.attached d.reasons has o) (sym (led_on items more (begun io))) has_ends

  record HeldNew (e : EndId) : Type 0 where
    pub held : HeldAs e ps
    pub behind : length was ≤ held.at

  -- an end that joined is held at a place that came since
  held_new : (e : EndId) → list_any (is_end e) (ends_of_all js) ≡ true → HeldNew e
  held_new e among = record { held = h; behind = by }
    where
      h : HeldAs e ps
      h = held_as e ps (subst (λ (hs : List (Held N)). list_any (is_end e) (map (λ x. x.end) hs) ≡ true) has_places.ends (joined.there e among))

      before : h.at < length was → ⊥
      before lt =
          let s : Stood was h.at = stood was h.at lt in
          let less : IsLess s.place h.place = keeps.each h.at s.place h.place s.there_is h.there_is in
          let same : s.place.end ≡ e = sym less.end_is ∙ h.is in
          joined.apart e among
          (subst (λ (d : EndId). list_any (is_end d) (map (λ x. x.end) (had.ends o)) ≡ true) same
          (ap (λ (hs : List (Held N)). list_any (is_end s.place.end) (map (λ x. x.end) hs)) had_places.ends ∙ any_ends s.place.end (held_in was) ∙ held_among was h.at s.place s.there_is (less.held h.held)))

      by : length was ≤ h.at
      by = elim (cases_order h.at (length was)) [
        | inl same ↦ omega (arith, same)
        | inr (inl below) ↦ absurd (before below)
        | inr (inr above) ↦ omega (arith, above)
      ]

  module _ {S O : Type 0} (K : Known S O I N) (made : Bool) (first : S) (befores nows : List (Joining N)) (xs : List (Joining N × ℕ)) (changes : List (PipeChange O I × S)) (are : oldest_first xs ≡ js)
      (come : HasCome K made false first (length was) befores xs nows changes ps) where
    module _ (k : ℕ) (p : Place N I) (le : length was ≤ k) (at : place_at ps k ≡ Some p) (a : JoinedAt xs k p) where
      among : list_any (is_end a.joining.end) (ends_of_all js) ≡ true
      among = ap (λ (l : List (Joining N)). list_any (is_end a.joining.end) (ends_of_all l)) (sym are) ∙ any_oldest xs a.joining k a.among

      new : HeldNew a.joining.end
      new = held_new a.joining.end among

      there : JoinedAt xs new.held.at new.held.place
      there = come.held new.held.at new.held.place new.behind new.held.there_is new.held.held

      same_place : k ≡ new.held.at
      same_place = one_place xs a.joining there.joining k new.held.at (subst (λ (l : List (Joining N)). AreOnce (ends_of_all l)) (sym are) joined.once) a.among there.among (sym new.held.is ∙ there.end_is)

      is : p ≡ new.held.place
      is = some_same p new.held.place (sym at ∙ ap (place_at ps) same_place ∙ new.held.there_is)

      held : p.held ≡ true
      held = ap (λ (q : Place N I). q.held) is ∙ new.held.held

      never_its : is_end_of o (after_all items (begun io)) p.end ≡ true → ⊥
      never_its its = by (is_here (place_of (after_all items (begun io)) p.end)) refl
        where
          by : (b : Bool) → is_here (place_of (after_all items (begun io)) p.end) ≡ b → ⊥
          by true here = joined.apart a.joining.end among
              (subst (λ (e : EndId). list_any (is_end e) (map (λ x. x.end) (had.ends o)) ≡ true) a.end_is (held_here io items run o names had had_ends p.end its here))
          by false off =
              let was_its = its_there io items run o p.end its in
              let gone = gone_run more (after_all items (begun io)) (runs_are_kept N T io items run) on p.end (was_its.numbered, gone_is (place_of (after_all items (begun io)) p.end) was_its.at off) in
              true≢false (sym (here_is io (items ++ more) all o said has has_all ps has_places k p at held) ∙ ap (λ (d : Control). is_here (place_of d p.end)) (led_on items more (begun io)) ∙ ap is_here gone.1)

    -- a place at which an end joined is held still, and the object did not have the end
    pub joined_held : (k : ℕ) (p : Place N I) → length was ≤ k → place_at ps k ≡ Some p → JoinedAt xs k p → p.held ≡ true
    joined_held k p le at a = held k p le at a

    pub joined_other : (k : ℕ) (p : Place N I) → length was ≤ k → place_at ps k ≡ Some p → JoinedAt xs k p → is_end_of o (after_all items (begun io)) p.end ≡ false
    joined_other k p le at a = is_false (is_end_of o (after_all items (begun io)) p.end) (never_its k p le at a)

  module _ {S O : Type 0} (K : Known S O I N) (may_make might : EndId → ℕ → ℕ → Type 0) (changes : List (PipeChange O I × S))
      (tied : (k : ℕ) (p : Place N I) → length was ≤ k → place_at ps k ≡ Some p → p.held ≡ true → IsMadeAt K may_make changes p) (may : (e : EndId) (written read : ℕ) → may_make e written read → might e written read) where
    -- each end that joined, by the names that were told, has halves of the pipes that were made for it
    pub made_for : (j : Joining N) → IsOneOf js j → said j.end ≡ Some j.written → said (other_end j.end) ≡ Some j.read → AreMadeFor K might changes j.end j.written j.read
    made_for j one written_told read_told = record {
      written = t.written;
      read = t.read;
      out = t.out;
      other = t.other;
      writes = ap (λ (e : EndId). made_last e changes) (sym h.is) ∙ t.writes;
      writes_it = t.writes_it ∙ some_same h.place.written j.written (sym two.written ∙ ap said h.is ∙ written_told);
      reads = ap (λ (e : EndId). made_last (other_end e) changes) (sym h.is) ∙ t.reads;
      reads_it = t.reads_it ∙ some_same h.place.read j.read (sym two.read ∙ ap (λ (e : EndId). said (other_end e)) h.is ∙ read_told);
      may = ∥∥₁_map t.may (λ m. subst (λ (e : EndId). might e t.written t.read) h.is (may h.place.end t.written t.read m));
    }
      where
        new : HeldNew j.end
        new = held_new j.end (any_one js j one)

        h : HeldAs j.end ps
        h = new.held

        t : IsMadeAt K may_make changes h.place
        t = tied h.at h.place new.behind h.there_is h.held

        two : HasBothNames said (held_of h.place)
        two = both_names io (items ++ more) all o said has has_all ps has_places h.at h.place h.there_is h.held
