-- The places of a socket's ends stay such over a control run, and each end at them goes on from where it was.
use Rattle.std.specs.Prelude.{◌≡◌, ◌≢◌, ◌≤◌, ◌<◌, ◌==◌, ◌&&◌, ◌||◌, ◌++◌, ℕ, zero, suc, Bool, true, false, not, List, [], ◌∷◌, All, Option, Some, filter, length, map, slice_index_or, refl, if◌then◌else◌}
use Rattle.std.specs.List.{list_any}
use Rattle.std.proofs.Common.{arith, sym, ap, ◌∙◌, subst, inl, inr, true≢false}
use Rattle.std.proofs.lemmas.Bool.{cases_order, eq-eqb, eqb-true}
use Rattle.std.proofs.lemmas.List.Elements.{All-head, All-tail}
use Rattle.zq_base.specs.declared.ids.EndId.{EndId}
use Rattle.zq_base.specs.Ends.{PipeId, other_end}
use Rattle.spec_control.specs.declared.end.EndState.TheVariants.{Active, DelimiterGot, WaitDelimiter, AckSent, AskedOnce, AskedTwice, Gone}
use Rattle.spec_control.specs.declared.entry.Item.{Item}
use Rattle.spec_control.specs.declared.entry.Item.TheVariants.{Event, Seen}
use Rattle.spec_control.specs.Place.{Place as Where, Unmade, Away, At, is_here}
use Rattle.spec_control.specs.Rows.{no_pair, end_place}
use Rattle.spec_control.specs.Control.{Control, begun, ends_of, is_end, next_pair, owner_of, place_of}
use Rattle.spec_control.specs.ControlRun.{FitsItem, IsControlRun, after_all, after_item}
use Rattle.spec_control.specs.Held.{Held}
use Rattle.control_laws.specs.Kept.{Kept}
use Rattle.control_laws.proofs.AskLemmas.{end_self, same_end}
use Rattle.control_laws.proofs.RootLemmas.{begun_kept, runs_are_kept}
use Rattle.control_laws.proofs.RunLemmas.{run_kept}
use Rattle.control_laws.proofs.AttachedLemmas.{attached_after}
use Rattle.control_laws.proofs.LeadLemmas.{goes_by, old_end}
use Rattle.control_laws.proofs.MoveLemmas.{is_at}
use Rattle.control_laws.proofs.AttachedOnceLemmas.{IsOld, old_run}
use Rattle.control_laws.specs.OwnMoves.{own_moves}
use Rattle.desk.specs.Holding.{Holding, has_end}
use Rattle.desk.specs.Lent.{HasBothNames, HasEnds}
use Rattle.end_table.specs.declared.table.Place.{Place}
use Rattle.end_table.specs.Others.{IsLess}
use Rattle.end_table.specs.Places.{place_at, held_of, held_in, writes_of, writes_in}
use Rattle.end_table.proofs.PlaceLemmas.{place_within}
use Rattle.socket_laws.specs.Ends.{is_new}
use Rattle.socket_laws.specs.Places.{is_end_of, IsOwnPlace, HasPlaces, AreItsPlaces, WasOrIsHeld, PlacesAreHeld, OwnPlacesStay, OwnPlacesGoOn}

-- ---- places

module _ {N I : Type 0} where
  pub record Stood (ps : List (Place N I)) (k : ℕ) : Type 0 where
    pub place : Place N I
    pub there_is : place_at ps k ≡ Some place

  pub stood : (ps : List (Place N I)) (k : ℕ) → k < length ps → Stood ps k
  stood [] k lt = absurd (omega (arith, lt))
  stood (p ∷ ps) zero lt = record { place = p; there_is = refl }
  stood (p ∷ ps) (suc k) lt = let rest = stood ps k (omega (arith, lt)) in record { place = rest.place; there_is = rest.there_is }

  -- an end that is held is so at a place
  pub record HeldAs (e : EndId) (ps : List (Place N I)) : Type 0 where
    pub at : ℕ
    pub place : Place N I
    pub there_is : place_at ps at ≡ Some place
    pub held : place.held ≡ true
    pub is : place.end ≡ e

  later : (e : EndId) (p : Place N I) (ps : List (Place N I)) → HeldAs e ps → HeldAs e (p ∷ ps)
  later e p ps h = record { at = suc h.at; place = h.place; there_is = h.there_is; held = h.held; is = h.is }

  pub held_as : (e : EndId) (ps : List (Place N I)) → list_any (is_end e) (map (λ x. x.end) (held_in ps)) ≡ true → HeldAs e ps
  held_as e [] h = absurd (true≢false (sym h))
  held_as e (p ∷ ps) h = by p.held refl (is_end e p.end) refl h (held_as e ps)
    where
      by : (b : Bool) → p.held ≡ b → (c : Bool) → is_end e p.end ≡ c → list_any (is_end e) (map (λ (x : Held N). x.end) (if b then held_of p ∷ held_in ps else held_in ps)) ≡ true
          → (list_any (is_end e) (map (λ (x : Held N). x.end) (held_in ps)) ≡ true → HeldAs e ps) → HeldAs e (p ∷ ps)
      by true held true is h rest = record { at = zero; place = p; there_is = refl; held = held; is = sym (same_end e p.end is) }
      by true held false other h rest = later e p ps (rest (sym (ap (λ (b : Bool). b || list_any (is_end e) (map (λ (x : Held N). x.end) (held_in ps))) other) ∙ h))
      by false free c is h rest = later e p ps (rest h)

  some_same : (p q : Place N I) → Some p ≡ Some q → p ≡ q
  some_same p q e = Prim.grind (arith, e)

-- each of these at its place
module _ {N I : Type 0} (P : Held N → Type 0) where
  each_held : (ps : List (Place N I)) → All P (held_in ps) → (k : ℕ) (p : Place N I) → place_at ps k ≡ Some p → p.held ≡ true → P (held_of p)
  each_held [] all k p at held = absurd (Prim.grind (arith, at))
  each_held (q ∷ ps) all k p at held = by q.held refl k at all (each_held ps)
    where
      by : (b : Bool) → q.held ≡ b → (k : ℕ) → place_at (q ∷ ps) k ≡ Some p → All P (if b then held_of q ∷ held_in ps else held_in ps)
          → (All P (held_in ps) → (k : ℕ) (p : Place N I) → place_at ps k ≡ Some p → p.held ≡ true → P (held_of p)) → P (held_of p)
      by true is zero at all rest = subst (λ (r : Place N I). P (held_of r)) (some_same q p at) (All-head P (held_of q) (held_in ps) all)
      by true is (suc k) at all rest = rest (All-tail P (held_of q) (held_in ps) all) k p at held
      by false is zero at all rest = absurd (true≢false (sym held ∙ ap (λ (r : Place N I). r.held) (sym (some_same q p at)) ∙ is))
      by false is (suc k) at all rest = rest all k p at held

-- ---- where an end is

pub gone_is : (p : Where) → is_at p ≡ true → is_here p ≡ false → p ≡ At Gone
gone_is (At Gone) at h = refl
gone_is Unmade at h = absurd (true≢false (sym at))
gone_is Away at h = absurd (true≢false (sym at))
gone_is (At Active) at h = absurd (true≢false h)
gone_is (At DelimiterGot) at h = absurd (true≢false h)
gone_is (At WaitDelimiter) at h = absurd (true≢false h)
gone_is (At AckSent) at h = absurd (true≢false h)
gone_is (At AskedOnce) at h = absurd (true≢false h)
gone_is (At AskedTwice) at h = absurd (true≢false h)

and_false : (a b : Bool) → b ≡ false → (a && b) ≡ false
and_false true b h = h
and_false false b h = refl

-- an end of a pair that has its number is gone
abbrev pub IsGone : Control → EndId → Type 0
IsGone c e = (e.pair.0 < next_pair c) × (place_of c e ≡ At Gone)

-- it stays so
gone_stays : {N S : Type 0} (c : Control) (item : Item N S) → Kept c → FitsItem c item → (e : EndId) → IsGone c e → IsGone (after_item item c) e
gone_stays c (Seen sight) kept fits e is = is
gone_stays c (Event entry) kept fits e is =
    let so = old_end c entry.did kept fits e is.0 (ap is_at is.1) in
    (so.within, gone_is (place_of (after_item (Event entry) c) e) so.at (so.there ∙ and_false (not (goes_by e (own_moves c entry.did))) (is_here (place_of c e)) (ap is_here is.1)))

pub gone_run : {N S : Type 0} (items : List (Item N S)) (c : Control) → Kept c → IsControlRun c items → (e : EndId) → IsGone c e → IsGone (after_all items c) e
gone_run [] c kept run e is = is
gone_run (item ∷ items) c kept run e is = gone_run items (after_item item c) (run_kept (item ∷ []) c kept (run.0, tt)) run.1 e (gone_stays c item kept run.0 e is)

no_place : (a : Bool) → end_place no_pair a ≡ At Gone
no_place true = refl
no_place false = refl

-- an end that is there is of a pair that was made
pub made_above : {N S : Type 0} (w : ℕ) (items : List (Item N S)) → IsControlRun (begun w) items → (e : EndId) → is_here (place_of (after_all items (begun w)) e) ≡ true → 0 < e.pair.0
made_above w items run e here = elim (cases_order 0 e.pair.0) [
  | inl zero_is ↦ absurd (true≢false (sym here ∙ ap is_here (gone_run items (begun w) (begun_kept w) run e (omega (arith, zero_is), ap (λ (k : ℕ). end_place (slice_index_or (begun w).rows.pairs k no_pair) e.a) (sym zero_is) ∙ no_place e.a)).1))
  | inr (inl below) ↦ below
  | inr (inr above) ↦ absurd (omega (arith, above))
]

-- an end that is at some place belongs to the object that it belonged to
owner_stays : {N S : Type 0} (c : Control) (item : Item N S) → Kept c → FitsItem c item → (e : EndId) → e.pair.0 < next_pair c → is_at (place_of c e) ≡ true → owner_of (after_item item c) e ≡ owner_of c e
owner_stays c (Seen sight) kept fits e within at = refl
owner_stays c (Event entry) kept fits e within at = (old_end c entry.did kept fits e within at).owner

-- over a control run
owner_stays_over : {N S : Type 0} (more : List (Item N S)) (c : Control) → Kept c → IsControlRun c more → (e : EndId) → e.pair.0 < next_pair c → is_at (place_of c e) ≡ true → owner_of (after_all more c) e ≡ owner_of c e
owner_stays_over [] c kept run e within at = refl
owner_stays_over (Seen sight ∷ more) c kept run e within at = owner_stays_over more c kept run.1 e within at
owner_stays_over (Event entry ∷ more) c kept run e within at =
    let so = old_end c entry.did kept run.0 e within at in
    owner_stays_over more (after_item (Event entry) c) (run_kept (Event entry ∷ []) c kept (run.0, tt)) run.1 e so.within so.at ∙ so.owner

-- ---- among the ends of a socket

pub any_whole : (f : EndId → Bool) (x : EndId) (es : List EndId) → list_any (is_end x) (filter f es) ≡ true → list_any (is_end x) es ≡ true
any_whole f x [] is = is
any_whole f x (e ∷ es) is = by (is_end x e) refl (f e) is (any_whole f x es)
  where
    by : (b : Bool) → is_end x e ≡ b → (p : Bool) → list_any (is_end x) (if p then e ∷ filter f es else filter f es) ≡ true → (list_any (is_end x) (filter f es) ≡ true → list_any (is_end x) es ≡ true) → (b || list_any (is_end x) es) ≡ true
    by true same p h rest = refl
    by false other true h rest = rest (sym (ap (λ (b : Bool). b || list_any (is_end x) (filter f es)) other) ∙ h)
    by false other false h rest = rest h

pub any_filter : (f : EndId → Bool) (x : EndId) (es : List EndId) → f x ≡ true → list_any (is_end x) es ≡ true → list_any (is_end x) (filter f es) ≡ true
any_filter f x [] passes is = absurd (true≢false (sym is))
any_filter f x (e ∷ es) passes is = by (is_end x e) refl (f e) refl is (any_filter f x es passes)
  where
    by : (b : Bool) → is_end x e ≡ b → (p : Bool) → f e ≡ p → (b || list_any (is_end x) es) ≡ true → (list_any (is_end x) es ≡ true → list_any (is_end x) (filter f es) ≡ true)
        → list_any (is_end x) (if p then e ∷ filter f es else filter f es) ≡ true
    by true same true pass h rest = ap (λ (b : Bool). b || list_any (is_end x) (filter f es)) same
    by true same false fail h rest = absurd (true≢false (sym passes ∙ ap f (same_end x e same) ∙ fail))
    by false other true pass h rest = ap (λ (b : Bool). b || list_any (is_end x) (filter f es)) other ∙ rest h
    by false other false fail h rest = rest h

pub any_pass : (f : EndId → Bool) (x : EndId) (es : List EndId) → list_any (is_end x) (filter f es) ≡ true → f x ≡ true
any_pass f x [] is = absurd (true≢false (sym is))
any_pass f x (e ∷ es) is = by (f e) refl (any_pass f x es) is
  where
    by : (p : Bool) → f e ≡ p → (list_any (is_end x) (filter f es) ≡ true → f x ≡ true) → list_any (is_end x) (if p then e ∷ filter f es else filter f es) ≡ true → f x ≡ true
    by false fail rest h = rest h
    by true pass rest h = here (is_end x e) refl h
      where
        here : (b : Bool) → is_end x e ≡ b → (b || list_any (is_end x) (filter f es)) ≡ true → f x ≡ true
        here true same g = ap f (same_end x e same) ∙ pass
        here false other g = rest g

pub any_ends : {N : Type 0} (e : EndId) (hs : List (Held N)) → list_any (is_end e) (map (λ x. x.end) hs) ≡ has_end e hs
any_ends e [] = refl
any_ends e (x ∷ hs) = ap (λ (b : Bool). is_end e x.end || b) (any_ends e hs)

module _ {N I : Type 0} where
  -- an end that is held at a place is among those that are held, and with its writing half among those that write
  pub held_among : (ps : List (Place N I)) (k : ℕ) (p : Place N I) → place_at ps k ≡ Some p → p.held ≡ true → has_end p.end (held_in ps) ≡ true
  held_among [] k p at held = absurd (Prim.grind (arith, at))
  held_among (q ∷ ps) k p at held = by q.held refl k at (held_among ps)
    where
      by : (b : Bool) → q.held ≡ b → (k : ℕ) → place_at (q ∷ ps) k ≡ Some p → ((k : ℕ) (p : Place N I) → place_at ps k ≡ Some p → p.held ≡ true → has_end p.end (held_in ps) ≡ true)
          → has_end p.end (if b then held_of q ∷ held_in ps else held_in ps) ≡ true
      by true is zero at rest = ap (λ (r : Place N I). is_end p.end r.end || has_end p.end (held_in ps)) (some_same q p at) ∙ ap (λ (b : Bool). b || has_end p.end (held_in ps)) (end_self p.end)
      by true is (suc k) at rest = later_true (is_end p.end q.end) (has_end p.end (held_in ps)) (rest k p at held)
        where
          later_true : (a b : Bool) → b ≡ true → (a || b) ≡ true
          later_true true b h = refl
          later_true false b h = h
      by false is zero at rest = absurd (true≢false (sym held ∙ ap (λ (r : Place N I). r.held) (sym (some_same q p at)) ∙ is))
      by false is (suc k) at rest = rest k p at held

  writes_among : (ps : List (Place N I)) (k : ℕ) (p : Place N I) → place_at ps k ≡ Some p → p.held ≡ true → p.writes ≡ true → writes_in ps p.end ≡ true
  writes_among [] k p at held writes = absurd (Prim.grind (arith, at))
  writes_among (q ∷ ps) zero p at held writes =
      ap (λ (r : Place N I). writes_of p.end r || writes_in ps p.end) (some_same q p at)
      ∙ ap (λ (b : Bool). (b && (p.held && is_end p.end p.end)) || writes_in ps p.end) writes ∙ ap (λ (b : Bool). (b && is_end p.end p.end) || writes_in ps p.end) held ∙ ap (λ (b : Bool). b || writes_in ps p.end) (end_self p.end)
  writes_among (q ∷ ps) (suc k) p at held writes = by (writes_of p.end q) (writes_among ps k p at held writes)
    where
      by : (a : Bool) → writes_in ps p.end ≡ true → (a || writes_in ps p.end) ≡ true
      by true h = refl
      by false h = h

any_of : (P : EndId → Type 0) (es : List EndId) (x : EndId) → All P es → list_any (is_end x) es ≡ true → P x
any_of P [] x all is = absurd (true≢false (sym is))
any_of P (e ∷ es) x all is = by (is_end x e) refl is (any_of P es x (All-tail P e es all))
  where
    by : (b : Bool) → is_end x e ≡ b → (b || list_any (is_end x) es) ≡ true → (list_any (is_end x) es ≡ true → P x) → P x
    by true same h rest = subst P (sym (same_end x e same)) (All-head P e es all)
    by false other h rest = rest h

any_append : (x : EndId) (es fs : List EndId) → list_any (is_end x) es ≡ true → list_any (is_end x) (es ++ fs) ≡ true
any_append x [] fs is = absurd (true≢false (sym is))
any_append x (e ∷ es) fs is = by (is_end x e) is (any_append x es fs)
  where
    by : (b : Bool) → (b || list_any (is_end x) es) ≡ true → (list_any (is_end x) es ≡ true → list_any (is_end x) (es ++ fs) ≡ true) → (b || list_any (is_end x) (es ++ fs)) ≡ true
    by true h rest = refl
    by false h rest = rest h

-- an end that an object has or had
pub record Its (c : Control) (o : ℕ) (e : EndId) : Type 0 where
  pub numbered : e.pair.0 < next_pair c
  pub at : is_at (place_of c e) ≡ true
  pub own : owner_of c e ≡ o

module _ {N S : Type 0} (io : ℕ) (items : List (Item N S)) (run : IsControlRun (begun io) items) (o : ℕ) where
  abbrev led : Control
  led = after_all items (begun io)

  pub its_there : (e : EndId) → is_end_of o (after_all items (begun io)) e ≡ true → Its (after_all items (begun io)) o e
  its_there e its =
      let old = any_of (IsOld (after_all items (begun io))) (after_all items (begun io)).attached e (old_run io items run) (any_whole (λ x. owner_of (after_all items (begun io)) x == o) e (after_all items (begun io)).attached its) in
      record { numbered = old.within; at = old.at; own = eqb-true (owner_of (after_all items (begun io)) e) o (any_pass (λ x. owner_of (after_all items (begun io)) x == o) e (after_all items (begun io)).attached its) }

  module _ (names : PipeId → Option N) (h : Holding N) (has : HasEnds names (after_all items (begun io)).rows.pairs (after_all items (begun io)).attached (after_all items (begun io)).reasons h o) where
    -- an end of it that is there is held
    pub held_here : (e : EndId) → is_end_of o (after_all items (begun io)) e ≡ true → is_here (place_of (after_all items (begun io)) e) ≡ true → list_any (is_end e) (map (λ x. x.end) (h.ends o)) ≡ true
    held_here e its here = ap (list_any (is_end e)) has.ends ∙ any_filter (λ x. is_here (place_of (after_all items (begun io)) x)) e (ends_of o (after_all items (begun io))) here its

    module _ {I : Type 0} (ps : List (Place N I)) (places : HasPlaces h o ps) (k : ℕ) (p : Place N I) (at : place_at ps k ≡ Some p) (held : p.held ≡ true) where
      among : has_end p.end (h.ends o) ≡ true
      among = ap (has_end p.end) places.ends ∙ held_among ps k p at held

      filtered : list_any (is_end p.end) (filter (λ x. is_here (place_of (after_all items (begun io)) x)) (ends_of o (after_all items (begun io)))) ≡ true
      filtered = ap (list_any (is_end p.end)) (sym has.ends) ∙ any_ends p.end (h.ends o) ∙ among

      pub here_is : is_here (place_of (after_all items (begun io)) p.end) ≡ true
      here_is = any_pass (λ x. is_here (place_of (after_all items (begun io)) x)) p.end (ends_of o (after_all items (begun io))) filtered

      pub its_is : is_end_of o (after_all items (begun io)) p.end ≡ true
      its_is = any_whole (λ x. is_here (place_of (after_all items (begun io)) x)) p.end (ends_of o (after_all items (begun io))) filtered

      pub both_names : HasBothNames names (held_of p)
      both_names = each_held (HasBothNames names) ps (subst (All (HasBothNames names)) places.ends has.named) k p at held

pub places_are_held : (N S I : Type 0) → PlacesAreHeld N S I
places_are_held N S I io items run names o h has ps places k p at held = record {
  at = record {
    here = here_is io items run o names h has ps places k p at held;
    writes = λ w. sym (has.writes p.end (among io items run o names h has ps places k p at held)) ∙ places.writes p.end ∙ writes_among ps k p at held w;
  };
  written = (both_names io items run o names h has ps places k p at held).written;
  read = (both_names io items run o names h has ps places k p at held).read;
  owner = (its_there io items run o p.end (its_is io items run o names h has ps places k p at held)).own;
}

-- items behind items
pub run_on : {N S : Type 0} (items more : List (Item N S)) (c : Control) → IsControlRun c items → IsControlRun (after_all items c) more → IsControlRun c (items ++ more)
run_on [] more c run on = on
run_on (x ∷ items) more c run on = (run.0, run_on items more (after_item x c) run.1 on)

pub led_on : {N S : Type 0} (items more : List (Item N S)) (c : Control) → after_all (items ++ more) c ≡ after_all more (after_all items c)
led_on [] more c = refl
led_on (x ∷ items) more c = led_on items more (after_item x c)

-- ---- over an item

module _ {N S : Type 0} (io : ℕ) (items : List (Item N S)) (item : Item N S) (run : IsControlRun (begun io) items) (fits : FitsItem (after_all items (begun io)) item) (o : ℕ) where
  -- an end of an object stays such
  one_stays : (e : EndId) → is_end_of o (after_all items (begun io)) e ≡ true → is_end_of o (after_item item (after_all items (begun io))) e ≡ true
  one_stays e its = by item fits (owner_stays (after_all items (begun io)) item (runs_are_kept N S io items run) fits e (its_there io items run o e its).numbered (its_there io items run o e its).at)
    where
      by : (x : Item N S) → FitsItem (after_all items (begun io)) x → owner_of (after_item x (after_all items (begun io))) e ≡ owner_of (after_all items (begun io)) e → is_end_of o (after_item x (after_all items (begun io))) e ≡ true
      by (Seen sight) f own = its
      by (Event entry) f own =
          any_filter (λ x. owner_of (after_item (Event entry) (after_all items (begun io))) x == o) e (after_item (Event entry) (after_all items (begun io))).attached
          (eq-eqb (owner_of (after_item (Event entry) (after_all items (begun io))) e) o (own ∙ (its_there io items run o e its).own))
          (ap (list_any (is_end e)) (attached_after (after_all items (begun io)) entry.did)
          ∙ any_append e (after_all items (begun io)).attached _ (any_whole (λ x. owner_of (after_all items (begun io)) x == o) e (after_all items (begun io)).attached its))

-- ---- over a control run

-- its ends stay such
pub its_stay : {N S : Type 0} (io : ℕ) (more items : List (Item N S)) → IsControlRun (begun io) items → IsControlRun (after_all items (begun io)) more → (o : ℕ) (e : EndId)
    → is_end_of o (after_all items (begun io)) e ≡ true → is_end_of o (after_all more (after_all items (begun io))) e ≡ true
its_stay io [] items run on o e its = its
its_stay {N} {S} io (item ∷ more) items run on o e its =
    subst (λ (d : Control). is_end_of o (after_all more d) e ≡ true) behind
    (its_stay io more (items ++ item ∷ []) (run_on items (item ∷ []) (begun io) run (on.0, tt)) (subst (λ (d : Control). IsControlRun d more) (sym behind) on.1) o e
    (subst (λ (d : Control). is_end_of o d e ≡ true) (sym behind) (one_stays io items item run on.0 o e its)))
  where
    behind : after_all (items ++ item ∷ []) (begun io) ≡ after_item item (after_all items (begun io))
    behind = led_on items (item ∷ []) (begun io)

pub its_numbered : {N S : Type 0} (io : ℕ) (items : List (Item N S)) → IsControlRun (begun io) items → (o : ℕ) (e : EndId) → is_end_of o (after_all items (begun io)) e ≡ true → e.pair.0 < next_pair (after_all items (begun io))
its_numbered io items run o e its = (its_there io items run o e its).numbered

-- and one that is gone stays gone
pub gone_stay : {N S : Type 0} (io : ℕ) (more items : List (Item N S)) → IsControlRun (begun io) items → IsControlRun (after_all items (begun io)) more → (e : EndId) → e.pair.0 < next_pair (after_all items (begun io))
    → place_of (after_all items (begun io)) e ≡ At Gone → place_of (after_all more (after_all items (begun io))) e ≡ At Gone
gone_stay {N} {S} io more items run on e lt gone = (gone_run more (after_all items (begun io)) (runs_are_kept N S io items run) on e (lt, gone)).1

module _ {N S : Type 0} (io : ℕ) (items more : List (Item N S)) (run : IsControlRun (begun io) items) (on : IsControlRun (after_all items (begun io)) more) (o : ℕ) where
  abbrev c : Control
  c = after_all items (begun io)

  abbrev now : Control
  now = after_all more (after_all items (begun io))

  all : IsControlRun (begun io) (items ++ more)
  all = run_on items more (begun io) run on

  led_to : after_all (items ++ more) (begun io) ≡ after_all more (after_all items (begun io))
  led_to = led_on items more (begun io)

  its_now : (e : EndId) → is_end_of o (after_all more (after_all items (begun io))) e ≡ true → Its (after_all more (after_all items (begun io))) o e
  its_now e its = subst (λ (d : Control). Its d o e) led_to (its_there io (items ++ more) all o e (subst (λ (d : Control). is_end_of o d e ≡ true) (sym led_to) its))

  module _ {I : Type 0} (names said : PipeId → Option N) (had has : Holding N) (was ps : List (Place N I))
      (are : AreItsPlaces (after_all items (begun io)) (after_all more (after_all items (begun io))) names said o had has was ps) where
    has_all : HasEnds said (after_all (items ++ more) (begun io)).rows.pairs (after_all (items ++ more) (begun io)).attached (after_all (items ++ more) (begun io)).reasons has o
    has_all = subst (λ (d : Control). HasEnds said d.rows.pairs d.attached d.reasons has o) (sym led_to) are.has_ends

    held_at : (k : ℕ) (q : Place N I) → place_at ps k ≡ Some q → q.held ≡ true → is_here (place_of (after_all more (after_all items (begun io))) q.end) ≡ true
    held_at k q at held = subst (λ (d : Control). is_here (place_of d q.end) ≡ true) led_to (here_is io (items ++ more) all o said has has_all ps are.has_places k q at held)

    its_held : (k : ℕ) (q : Place N I) → place_at ps k ≡ Some q → q.held ≡ true → is_end_of o (after_all more (after_all items (begun io))) q.end ≡ true
    its_held k q at held = subst (λ (d : Control). is_end_of o d q.end ≡ true) led_to (its_is io (items ++ more) all o said has has_all ps are.has_places k q at held)

    -- a place of an end that came to be held
    came : (k : ℕ) (q : Place N I) → place_at ps k ≡ Some q → q.held ≡ true → IsOwnPlace (after_all more (after_all items (begun io))) said o q
    came k q at on_it =
        let two = both_names io (items ++ more) all o said has has_all ps are.has_places k q at on_it in
        record {
          its = its_held k q at on_it;
          written = two.written;
          read = two.read;
          above = made_above io (items ++ more) all q.end (here_is io (items ++ more) all o said has has_all ps are.has_places k q at on_it);
          gone = λ none. absurd (true≢false (sym on_it ∙ none));
        }

    -- a place at which an end was held
    module _ (k : ℕ) (q : Place N I) (at : place_at ps k ≡ Some q) (lt : k < length was) (stood_there : (p : Place N I) → place_at was k ≡ Some p → p.held ≡ true) where
      s : Stood was k
      s = stood was k lt

      held : s.place.held ≡ true
      held = stood_there s.place s.there_is

      less : IsLess s.place q
      less = are.keeps.each k s.place q s.there_is at

      was_its : is_end_of o (after_all items (begun io)) s.place.end ≡ true
      was_its = its_is io items run o names had are.had_ends was are.had_places k s.place s.there_is held

      was_named : HasBothNames names (held_of s.place)
      was_named = both_names io items run o names had are.had_ends was are.had_places k s.place s.there_is held

      its : is_end_of o (after_all more (after_all items (begun io))) q.end ≡ true
      its = subst (λ (e : EndId). is_end_of o (after_all more (after_all items (begun io))) e ≡ true) (sym less.end_is) (its_stay io more items run on o s.place.end was_its)

      module _ (none : q.held ≡ false) (found : HeldAs q.end ps) where
        same_end_is : s.place.end ≡ found.place.end
        same_end_is = sym less.end_is ∙ sym found.is

        new_one : length was ≤ found.at → ⊥
        new_one le =
            true≢false (sym was_its ∙ ap (is_end_of o (after_all items (begun io))) same_end_is ∙ are.others found.at found.place le found.there_is found.held)

        differ : found.at < length was → k ≢ found.at → ⊥
        differ below ne =
            let t = stood was found.at below in
            let less_then = are.keeps.each found.at t.place found.place t.there_is found.there_is in
            are.once k found.at s.place t.place ne s.there_is t.there_is held (less_then.held found.held) (same_end_is ∙ less_then.end_is)

        old_one : found.at < length was → ⊥
        old_one below = elim (cases_order k found.at) [
          | inl same ↦ true≢false (sym found.held ∙ ap (λ (p : Place N I). p.held) (some_same found.place q (sym found.there_is ∙ ap (place_at ps) (sym same) ∙ at)) ∙ none)
          | inr (inl before) ↦ differ below (λ e. omega (arith, e, before))
          | inr (inr behind) ↦ differ below (λ e. omega (arith, e, behind))
        ]

        -- it is held at no place
        never_held : ⊥
        never_held = elim (cases_order found.at (length was)) [
          | inl same ↦ new_one (omega (arith, same))
          | inr (inl below) ↦ old_one below
          | inr (inr above) ↦ new_one (omega (arith, above))
        ]

      gone : q.held ≡ false → place_of (after_all more (after_all items (begun io))) q.end ≡ At Gone
      gone none = by (is_here (place_of (after_all more (after_all items (begun io))) q.end)) refl
        where
          here_so : is_here (place_of (after_all more (after_all items (begun io))) q.end) ≡ true → list_any (is_end q.end) (map (λ x. x.end) (held_in ps)) ≡ true
          here_so here =
              subst (λ (hs : List (Held N)). list_any (is_end q.end) (map (λ x. x.end) hs) ≡ true) are.has_places.ends
              (held_here io (items ++ more) all o said has has_all q.end (subst (λ (d : Control). is_end_of o d q.end ≡ true) (sym led_to) its)
              (subst (λ (d : Control). is_here (place_of d q.end) ≡ true) (sym led_to) here))

          by : (x : Bool) → is_here (place_of (after_all more (after_all items (begun io))) q.end) ≡ x → place_of (after_all more (after_all items (begun io))) q.end ≡ At Gone
          by false here = gone_is (place_of (after_all more (after_all items (begun io))) q.end) (its_now q.end its).at here
          by true here = absurd (never_held none (held_as q.end ps (here_so here)))

      stays : IsOwnPlace (after_all more (after_all items (begun io))) said o q
      stays = record {
        its = its;
        written = ap said less.end_is ∙ are.names_stay s.place.end s.place.written was_named.written ∙ ap (λ (n : N). Some n) (sym less.written_is);
        read = ap (λ (e : EndId). said (other_end e)) less.end_is ∙ are.names_stay (other_end s.place.end) s.place.read was_named.read ∙ ap (λ (n : N). Some n) (sym less.read_is);
        above = subst (λ (e : EndId). 0 < e.pair.0) (sym less.end_is) (made_above io items run s.place.end (here_is io items run o names had are.had_ends was are.had_places k s.place s.there_is held));
        gone = gone;
      }

    own_place : (k : ℕ) (q : Place N I) → place_at ps k ≡ Some q → WasOrIsHeld was k q → IsOwnPlace (after_all more (after_all items (begun io))) said o q
    own_place k q at is = elim (cases_order k (length was)) [
      | inl same ↦ came k q at (is.came (omega (arith, same)))
      | inr (inl below) ↦ stays k q at below is.stood
      | inr (inr above) ↦ came k q at (is.came (omega (arith, above)))
    ]

    -- an end that came to be held was not attached
    at_none : (k : ℕ) (q : Place N I) → length was ≤ k → place_at ps k ≡ Some q → q.held ≡ true → q.end.pair.0 < next_pair (after_all items (begun io)) → is_at (place_of (after_all items (begun io)) q.end) ≡ true → ⊥
    at_none k q le at on_it within is_there = by (is_here (place_of (after_all items (begun io)) q.end)) refl
      where
        kept : Kept (after_all items (begun io))
        kept = runs_are_kept N S io items run

        own : owner_of (after_all items (begun io)) q.end ≡ o
        own = sym (owner_stays_over more (after_all items (begun io)) kept on q.end within is_there) ∙ (its_now q.end (its_held k q at on_it)).own

        its_then : is_here (place_of (after_all items (begun io)) q.end) ≡ true → is_end_of o (after_all items (begun io)) q.end ≡ true
        its_then here =
            any_filter (λ x. owner_of (after_all items (begun io)) x == o) q.end (after_all items (begun io)).attached (eq-eqb (owner_of (after_all items (begun io)) q.end) o own) (kept.listed q.end.pair.0 q.end.a here)

        by : (b : Bool) → is_here (place_of (after_all items (begun io)) q.end) ≡ b → ⊥
        by true here = true≢false (sym (its_then here) ∙ are.others k q le at on_it)
        by false off =
            true≢false (sym (held_at k q at on_it) ∙ ap is_here (gone_run more (after_all items (begun io)) kept on q.end (within, gone_is (place_of (after_all items (begun io)) q.end) is_there off)).1)

    is_new_end : (k : ℕ) (q : Place N I) → length was ≤ k → place_at ps k ≡ Some q → q.held ≡ true → q.end.pair.0 < next_pair (after_all items (begun io)) → (w : Where) → place_of (after_all items (begun io)) q.end ≡ w → is_new w ≡ true
    is_new_end k q le at on_it within Unmade e = refl
    is_new_end k q le at on_it within Away e = refl
    is_new_end k q le at on_it within (At state) e = absurd (at_none k q le at on_it within (ap is_at e))

pub own_places_stay : (N S I : Type 0) → OwnPlacesStay N S I
own_places_stay N S I io items more run on names said o had has was ps are k q at is = own_place io items more run on o names said had has was ps are k q at is

pub own_places_go_on : (N S I : Type 0) → OwnPlacesGoOn N S I
own_places_go_on N S I io items more run on names said o had has was ps are = record {
  held = λ k p at held. (places_are_held N S I io items run names o had are.had_ends was are.had_places k p at held).at;
  stay = λ k p q at at_now. (are.keeps.each k p q at at_now).end_is;
  came = λ k q le at on_it within. is_new_end io items more run on o names said had has was ps are k q le at on_it within (place_of (after_all items (begun io)) q.end) refl;
  gone = λ k p q at held at_now none.
      let lt = place_within was k p at in
      let is = own_place io items more run on o names said had has was ps are k q at_now
      (record { stood = λ r at_r. ap (λ (x : Place N I). x.held) (some_same r p (sym at_r ∙ at)) ∙ held; came = λ le. absurd (omega (arith, lt, le)) }) in
      record { above = is.above; numbered = (its_now io items more run on o q.end is.its).numbered; gone = is.gone none };
}
