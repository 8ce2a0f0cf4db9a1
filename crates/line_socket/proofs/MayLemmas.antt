-- A call of a lent socket changes pipes of its own ends alone: halves on their way to it may join it still behind one that puts no end on its way.
use Rattle.std.proofs.Common.{◌≡◌, ◌≢◌, ◌≤◌, ◌<◌, ◌+◌, ◌∙◌, ◌++◌, ◌||◌, ◌==◌, ◌⊎◌, inl, inr, ℕ, zero, suc, Bool, true, false, List, [], ◌∷◌, All, append-nil, append_assoc, length, map, Option, Some, None, refl, sym, ap, subst, if◌then◌else◌, arith}
use Rattle.std.specs.List.{list_any}
use Rattle.std.proofs.Math.Logic.{∥∥₁_elim, ∥∥₁_map}
use Rattle.std.proofs.lemmas.List.Elements.{All-filter, All-head, All-tail}
use Rattle.std.proofs.lemmas.List.Folds.{list_any-append}
use Rattle.zq_base.specs.Ends.{other_end}
use Rattle.zq_base.specs.declared.ids.EndId.{EndId}
use Rattle.zq_base.specs.declared.ids.SlotId.{SlotId}
use Rattle.spec_control.specs.declared.entry.Item.{Item}
use Rattle.spec_control.specs.declared.entry.Joining.{Joining}
use Rattle.spec_control.specs.Control.{is_end, ends_of, owner_of as control_owner}
use Rattle.spec_control.specs.Names.{joined_in, name_of, AreNamed, FitsNames, IsTold}
use Rattle.control_laws.proofs.AskLemmas.{end_self}
use Rattle.spec_control.specs.Held.{Held}
use Rattle.spec_control.specs.Moments.{Moment, items_in, left_after, left_by}
use Rattle.spec_control.specs.OwnAsks.{known_after}
use Rattle.ctl_moves.proofs.HeldLemmas.{other_twice}
use Rattle.desk.specs.declared.given.Given.{Given}
use Rattle.desk.specs.declared.halves.Halves.{Halves}
use Rattle.desk.specs.Desk.{came_with, slot_after, counts_with}
use Rattle.socket_laws.specs.Behind.{closes, is_its_end, is_request, IsNoneOfIts, IsOfIts, IsOneCall, SendsNone, StaysOpen}
use Rattle.socket_laws.proofs.LastLemmas.{moments_are_last}
use Rattle.socket_laws.proofs.NewLemmas.{coming_ends_are_new, ends_stay_its, held_ends_are_its}
use Rattle.socket_laws.proofs.SendLemmas.{no_moment_no_item, requests_alone_send}
use Rattle.msg_pipe.specs.Known.{Known, IsElse, IsThere, KeepsAll, KeepsButOut}
use Rattle.any_sock.specs.declared.any_sock.AnySock.{AnySock}
use Rattle.end_table.specs.declared.changes.PipeChange.{PipeChange}
use Rattle.end_table.specs.declared.changes.PipeChange.TheVariants.{Kept, Made, Sealed, SealedAgain, Parted, Settled}
use Rattle.end_table.specs.declared.table.Place.{Place}
use Rattle.end_table.specs.Changes.{DoesChange, DoesChanges, MadeWith, SealedBy, PartedBy, WasHeld, WereHeld}
use Rattle.end_table.specs.Others.{IsLess}
use Rattle.end_table.specs.Places.{place_at, held_of, held_in}
use Rattle.end_table.specs.Sound.{Fits}
use Rattle.end_table.proofs.EndsLemmas.{some_place}
use Rattle.sock_core.specs.Came.{AreChangedAt, HasJoined, IsChangedAt, IsOneOf}
use Rattle.sock_core.specs.declared.sock.SockCore.{SockCore}
use Rattle.sock_core.specs.Has.{holding_in}
use Rattle.sock_core.specs.Standing.{standing_joins}
use Rattle.line_socket.specs.Standing.{kind_told}
use Rattle.spec_run.specs.OpenSocket.{joins_of}
use Rattle.socket_laws.specs.Open.{IsOfItem}
use Rattle.plain_desk.specs.Lent.{Lent, coming_to, moments_of}
use Rattle.line_socket.specs.Owned.{IsLentTo, IsThereFor, MayTakeEnds}
use Rattle.sock_calls.specs.Calls.{counts_by, holding_of}
use Rattle.socket_laws.specs.Calling.{OpensBy}
use Rattle.line_socket.specs.Called.{IsCalled}
use Rattle.line_socket.specs.ReadersOwed.{own_ends}
use Rattle.line_socket.proofs.MomentLemmas.{one}
use Rattle.line_socket.proofs.MovesLemmas.{ends_behind, ends_same, go, joins_more, left_was}
use Rattle.line_socket.proofs.StayedLemmas.{lent_stays}
use Rattle.line_socket.proofs.ThroughLemmas.{was, is_now, lent_behind, one_call, stays_so}

nothing_prop : IsProp ⊥
nothing_prop = Prim.hlevel

-- ---- of lists

one_of_all : {A : Type 0} (P : A → Type 0) (xs : List A) (a : A) → All P xs → IsOneOf xs a → P a
one_of_all P [] a all one = absurd one
one_of_all P (x ∷ xs) a all (inl same) = subst P same (All-head P x xs all)
one_of_all P (x ∷ xs) a all (inr one) = one_of_all P xs a (All-tail P x xs all) one

or_second : (b c : Bool) → c ≡ true → (b || c) ≡ true
or_second true c h = refl
or_second false c h = h

-- one of these that joined is among their ends
joined_among : {N : Type 0} (js : List (Joining N)) (j : Joining N) → IsOneOf js j → list_any (is_end j.end) (map (λ (x : Joining N). x.end) js) ≡ true
joined_among [] j one = absurd one
joined_among {N = N} (x ∷ js) j (inl same) = ap (λ (b : Bool). b || list_any (is_end j.end) (map (λ (y : Joining N). y.end) js)) (ap (λ (y : Joining N). is_end j.end y.end) same ∙ end_self j.end)
joined_among {N = N} (x ∷ js) j (inr one) = or_second (is_end j.end x.end) (list_any (is_end j.end) (map (λ (y : Joining N). y.end) js)) (joined_among js j one)

named_last : {N S : Type 0} (past items : List (Item N S)) (item : Item N S) → AreNamed past (items ++ item ∷ []) → FitsNames (past ++ items) item
named_last {N = N} {S = S} past [] item named = subst (λ (xs : List (Item N S)). FitsNames xs item) (sym (append-nil past)) named.0
named_last {N = N} {S = S} past (x ∷ items) item named = subst (λ (xs : List (Item N S)). FitsNames xs item) (append_assoc past (x ∷ []) items) (named_last (past ++ x ∷ []) items item named.1)

module _ {N I : Type 0} where
  none_some : {x : Place N I} → None ≡ Some x → ⊥
  none_some e = Prim.grind arith

  some_eq : {x y : Place N I} → Some x ≡ Some y → x ≡ y
  some_eq e = Prim.grind arith

  -- a place is there, or came behind all of these
  there_or : (ps : List (Place N I)) (k : ℕ) → ((p : Place N I) × (place_at ps k ≡ Some p)) ⊎ (length ps ≤ k)
  there_or [] k = inr (omega arith)
  there_or (x ∷ xs) zero = inl (x, refl)
  there_or (x ∷ xs) (suc k) = by (there_or xs k) where
    by : ((p : Place N I) × (place_at xs k ≡ Some p)) ⊎ (length xs ≤ k) → ((p : Place N I) × (place_at xs k ≡ Some p)) ⊎ (length (x ∷ xs) ≤ suc k)
    by (inl there) = inl there
    by (inr le) = inr (omega (arith, le))

  -- what is so of those held is so of each that is
  held_at : (P : Held N → Type 0) (ps : List (Place N I)) → All P (held_in ps) → (k : ℕ) (p : Place N I) → place_at ps k ≡ Some p → p.held ≡ true → P (held_of p)
  held_at P [] all k p at held = absurd (none_some at)
  held_at P (x ∷ xs) all zero p at held =
      let same = some_eq at in
      subst (λ (y : Place N I). P (held_of y)) same
      (All-head P (held_of x) (held_in xs) (subst (λ (b : Bool). All P (if b then held_of x ∷ held_in xs else held_in xs)) (ap (λ (y : Place N I). y.held) same ∙ held) all))
  held_at P (x ∷ xs) all (suc k) p at held = by (λ rest. held_at P xs rest k p at held) x.held refl where
    by : (All P (held_in xs) → P (held_of p)) → (b : Bool) → x.held ≡ b → P (held_of p)
    by behind true is = behind (All-tail P (held_of x) (held_in xs) (subst (λ (b : Bool). All P (if b then held_of x ∷ held_in xs else held_in xs)) is all))
    by behind false is = behind (subst (λ (b : Bool). All P (if b then held_of x ∷ held_in xs else held_in xs)) is all)

-- ---- halves of other pipes

module _ {S O I N : Type 0} (K : Known S O I N) (h : Halves O I) where
  -- the pipes of the end at a place are others
  record IsElsewhere (p : Place N I) : Type 0 where
    written : IsElse K (K.out_name h.out) p.written
    read : IsElse K (K.out_name h.out) p.read
    ins : IsElse K (K.in_name h.input) p.read

  -- their pipes are there still, and nothing was written to them
  record Carries (old new : S) : Type 0 where
    there : (n : N) → IsThere K old n → IsThere K new n
    writes : IsThere K old (K.out_name h.out) → K.writing new h.out ≡ K.writing old h.out

  carries_all : (old new : S) → KeepsAll K old new → Carries old new
  carries_all old new keeps = record { there = keeps.there; writes = keeps.outs h.out }

  carries_out : (lent back : O) (old new : S) → KeepsButOut K lent back old new → IsElse K (K.out_name h.out) (K.out_name lent) → Carries old new
  carries_out lent back old new keeps other = record { there = keeps.there; writes = λ there. keeps.outs h.out there other }

  carries_same : (old new : S) → new ≡ old → Carries old new
  carries_same old new same = record {
    there = λ n there. subst (λ (s : S). IsThere K s n) (sym same) there;
    writes = λ there. ap (λ (s : S). K.writing s h.out) same;
  }

  carries_on : (a b c : S) → Carries a b → Carries b c → Carries a c
  carries_on a b c first second = record {
    there = λ n there. second.there n (first.there n there);
    writes = λ there. second.writes (first.there (K.out_name h.out) there) ∙ first.writes there;
  }

  made_carries : (old new : S) (capacity : ℕ) (xs : List (O × I)) → MadeWith K capacity xs old new → Carries old new
  made_carries old new capacity [] does = absurd does
  made_carries old new capacity (x ∷ xs) does = carries_all old new does.1

  module _ (so : ℕ → Place N I → Type 0) (apart : (k : ℕ) (p : Place N I) → so k p → IsElsewhere p) (ps : List (Place N I)) where
    abbrev IsAt : ℕ → Type 0
    IsAt k = 0 ≤ k → (p : Place N I) → place_at ps k ≡ Some p → so k p

    -- a place that an end has, with what is so of it
    at_place : (k : ℕ) → k < length ps → IsAt k → (p : Place N I) × (place_at ps k ≡ Some p) × IsElsewhere p
    at_place k within is = let p = some_place ps k within in (p.0, p.1, apart k p.0 (is (omega arith) p.0 p.1))

    module _ (old new : S) where
      sealed : (k : ℕ) (e : EndId) (xs : List (O × Unit {0})) → SealedBy K ps k e xs old new → IsAt k → Carries old new
      sealed k e [] does is = absurd does
      sealed k e (lent ∷ []) does is = absurd does
      sealed k e (lent ∷ back ∷ []) does is =
          let p = at_place k does.placed.within is in
          carries_out lent.0 back.0 old new does.keeps (subst (λ (n : N). IsElse K (K.out_name h.out) n) (sym (does.pipe_is p.0 p.1)) p.2.written)
      sealed k e (lent ∷ back ∷ more ∷ xs) does is = absurd does

      parted : (k : ℕ) (e : EndId) (xs : List (O × Unit {0})) → PartedBy K ps k e xs old new → IsAt k → Carries old new
      parted k e [] does is = absurd does
      parted k e (lent ∷ []) does is = absurd does
      parted k e (lent ∷ back ∷ []) does is =
          let p = at_place k does.placed.within is in
          carries_out lent.0 back.0 old new does.keeps (subst (λ (n : N). IsElse K (K.out_name h.out) n) (sym (does.pipe_is p.0 p.1)) p.2.written)
      parted k e (lent ∷ back ∷ more ∷ xs) does is = absurd does

      carries_one : (x : PipeChange O I) → DoesChange K ps x old new → IsChangedAt so 0 ps x → Carries old new
      carries_one Kept does is = carries_all old new does
      carries_one (Made e capacity halves) does is = made_carries old new capacity halves.items does
      carries_one (Sealed k e half) does is = sealed k e half.items does is
      carries_one (SealedAgain k e) does is = carries_same old new does.stays
      carries_one (Parted k e half) does is = parted k e half.items does is
      carries_one (Settled k e) does is =
          let p = at_place k does.placed.within is in
          let keeps = does.keeps p.0 p.1 in
          record { there = keeps.there; writes = λ there. keeps.outs h.out there p.2.read }

    carries_changes : (old : S) (xs : List (PipeChange O I × S)) (new : S) → DoesChanges K ps old xs new → AreChangedAt so 0 ps xs → Carries old new
    carries_changes old [] new does is = carries_same old new does
    carries_changes old (x ∷ xs) new does is = carries_on old x.1 new (carries_one old x.1 x.0 does.0 is.0) (carries_changes x.1 xs new does.1 is.1)

-- ---- the ends of a lent socket

module _ {W N O I S T : Type 0} (K : Known S O I N) (pipes : S) (d : Lent (Given N O I) N T) (n : ℕ) (s : SockCore AnySock W N O I) (is : IsLentTo K pipes d n s) where
  -- each that is held is its
  pub held_its : (k : ℕ) (p : Place N I) → place_at s.ends.places.items k ≡ Some p → p.held ≡ true → IsOfIts s.number.0 d p.end p.written p.read
  held_its k p at held =
      held_at (λ x. IsOfIts s.number.0 d x.end x.written x.read) s.ends.places.items
      (subst (All (λ x. IsOfIts s.number.0 d x.end x.written x.read)) (own_ends K pipes d n s is)
      (held_ends_are_its (Given N O I) N T d s.number.0 is.order is.owned.is_open (holding_in (kind_told s.kind) s) is.owned.has is.owned.held)) k p at held

-- ---- behind a call of it

module _ {W N O I S T : Type 0} {made : Bool} {may_make : EndId → ℕ → ℕ → Type 0} (K : Known S O I N) (before now : S) (d e : Lent (Given N O I) N T) (n k : ℕ) (s t : SockCore AnySock W N O I) (is : IsLentTo K before d n s)
    (called : IsCalled K made may_make before d (Some s) now e (Some t)) (behind : IsLentTo K now e k t) (js : List (Joining N)) (joins : standing_joins t.joins.items ≡ standing_joins s.joins.items ++ js)
    (told : (j : Joining N) → IsOneOf js j → IsOfIts s.number.0 e j.end j.written j.read) (stay : (x : EndId) → is_its_end s.number.0 d x ≡ true → is_its_end s.number.0 e x ≡ true) where
  abbrev o : ℕ
  o = s.number.0

  abbrev IsIts : Place N I → Type 0
  IsIts p = IsOfIts o e p.end p.written p.read

  its_still : (was_there p : Place N I) → IsLess was_there p → IsOfIts o d was_there.end was_there.written was_there.read → IsIts p
  its_still q p less i = record {
    its = ap (λ (x : EndId). is_its_end o e x) less.end_is ∙ stay q.end i.its;
    written = ap (name_of e.items) less.end_is ∙ called.names q.end q.written i.written ∙ ap (λ (x : N). Some x) (sym less.written_is);
    read = ap (λ (x : EndId). name_of e.items (other_end x)) less.end_is ∙ called.names (other_end q.end) q.read i.read ∙ ap (λ (x : N). Some x) (sym less.read_is);
  }

  joined_its : (p : Place N I) → HasJoined js p → IsIts p
  joined_its p j =
      let i = told j.joining j.among in
      record {
        its = ap (λ (x : EndId). is_its_end o e x) j.end_is ∙ i.its;
        written = ap (name_of e.items) j.end_is ∙ i.written ∙ ap (λ (x : N). Some x) (sym j.written_is);
        read = ap (λ (x : EndId). name_of e.items (other_end x)) j.end_is ∙ i.read ∙ ap (λ (x : N). Some x) (sym j.read_is);
      }

  -- ---- each change of a pipe was at a place of an end of its own

  abbrev WasHeldAt : ℕ → Type 0
  WasHeldAt j = (p : Place N I) → place_at s.ends.places.items j ≡ Some p → p.held ≡ true

  abbrev CameAt : ℕ → Type 0
  CameAt j = length s.ends.places.items ≤ j → (p : Place N I) → place_at t.ends.places.items j ≡ Some p → ∥ HasJoined js p ∥₁

  at_its : (j : ℕ) → WasHeldAt j → CameAt j → 0 ≤ j → (p : Place N I) → place_at t.ends.places.items j ≡ Some p → ∥ IsIts p ∥₁
  at_its j held came le p at = by (there_or s.ends.places.items j) where
    by : ((q : Place N I) × (place_at s.ends.places.items j ≡ Some q)) ⊎ (length s.ends.places.items ≤ j) → ∥ IsIts p ∥₁
    by (inl q) = ∣ its_still q.0 p (called.others.places.each j q.0 p q.1 at) (held_its K before d n s is j q.0 q.1 (held q.0 q.1)) ∣₁
    by (inr behind_all) = ∥∥₁_map (came behind_all p at) (joined_its p)

  one_its : (x : PipeChange O I) → WasHeld s.ends.places.items x → IsChangedAt (λ j p. ∥ HasJoined js p ∥₁) (length s.ends.places.items) t.ends.places.items x → IsChangedAt (λ j p. ∥ IsIts p ∥₁) 0 t.ends.places.items x
  one_its Kept held came = tt
  one_its (Made x capacity halves) held came = tt
  one_its (Sealed j x half) held came = at_its j (λ p at. (held p at).0) came
  one_its (SealedAgain j x) held came = at_its j (λ p at. (held p at).0) came
  one_its (Parted j x half) held came = at_its j (λ p at. (held p at).0) came
  one_its (Settled j x) held came = at_its j held came

  all_its : (xs : List (PipeChange O I × S)) → WereHeld s.ends.places.items xs → AreChangedAt (λ j p. ∥ HasJoined js p ∥₁) (length s.ends.places.items) t.ends.places.items xs → AreChangedAt (λ j p. ∥ IsIts p ∥₁) 0 t.ends.places.items xs
  all_its [] held came = tt
  all_its (x ∷ xs) held came = (one_its x.0 held.0 came.0, all_its xs held.1 came.1)

  changed_so : AreChangedAt (λ j p. ∥ IsIts p ∥₁) 0 t.ends.places.items called.does.changes
  changed_so = all_its called.does.changes called.does.were_held (called.does.came js joins).changed

  -- ---- halves on their way to it

  module _ (sends : SendsNone d e) (slot : slot_after s.number.0 (moments_of e) ≡ slot_after s.number.0 (moments_of d)) (may : MayTakeEnds K (was K before now d e n (Some s))) where
    module _ (x : EndId) (h : Halves O I) (coming : coming_to e (slot_after o (moments_of e)).0 x ≡ true) (written : name_of e.items x ≡ Some (K.out_name h.out)) (read : name_of e.items (other_end x) ≡ Some (K.in_name h.input)) where
      fresh : IsNoneOfIts o e x
      fresh =
          coming_ends_are_new (Given N O I) N T e o called.order
          (subst (λ (i : ℕ). (known_after i (items_in (moments_of e))).open_socket ≡ true) called.owner behind.owned.is_open) x coming

      else_of : (a b : EndId) (m l : N) → name_of e.items a ≡ Some m → name_of e.items b ≡ Some l → a ≢ b → IsElse K m l
      else_of a b m l of_a of_b apart = λ exact same. apart (sends.distinct K.exact may.distinct exact a b m of_a (of_b ∙ ap (λ (z : N). Some z) (sym same)))

      module _ (p : Place N I) (its : IsIts p) where
        other : x ≢ p.end
        other = fresh.other p.end its.its

        across : x ≢ other_end p.end
        across = fresh.across p.end its.its

        across_read : other_end x ≢ other_end p.end
        across_read same = other (sym (other_twice x) ∙ ap other_end same ∙ other_twice p.end)

        across_back : p.end ≢ other_end x
        across_back same = across (sym (other_twice x) ∙ ap other_end (sym same))

        elsewhere : IsElsewhere K h p
        elsewhere = record {
          written = else_of x p.end (K.out_name h.out) p.written written its.written other;
          read = else_of x (other_end p.end) (K.out_name h.out) p.read written its.read across;
          ins = else_of (other_end x) (other_end p.end) (K.in_name h.input) p.read read its.read across_read;
        }

      elsewhere_so : (j : ℕ) (p : Place N I) → ∥ IsIts p ∥₁ → IsElsewhere K h p
      elsewhere_so j p its = record {
        written = λ exact same. ∥∥₁_elim its nothing_prop (λ i. (elsewhere p i).written exact same);
        read = λ exact same. ∥∥₁_elim its nothing_prop (λ i. (elsewhere p i).read exact same);
        ins = λ exact same. ∥∥₁_elim its nothing_prop (λ i. (elsewhere p i).ins exact same);
      }

      held_now : (j : ℕ) (p : Place N I) → place_at t.ends.places.items j ≡ Some p → p.held ≡ true → IsIts p
      held_now j p at held = subst (λ (i : ℕ). IsOfIts i e p.end p.written p.read) called.owner (held_its K now e k t behind j p at held)

      carried : Carries K h before now
      carried = carries_changes K h (λ j p. ∥ IsIts p ∥₁) elsewhere_so t.ends.places.items before called.does.changes now called.does.does changed_so

      fits_now : Fits K before s.ends.places.items h → Fits K now t.ends.places.items h
      fits_now fits = record {
        out_there = carried.there (K.out_name h.out) fits.out_there;
        in_there = carried.there (K.in_name h.input) fits.in_there;
        unsealed = ap (λ w. w.sealed) (carried.writes fits.out_there) ∙ fits.unsealed;
        crossed = fits.crossed;
        others = λ j p at held.
            let its = held_now j p at held in
            let there = elsewhere p its in
            record {
              outs = λ writes. (else_of p.end x p.written (K.out_name h.out) its.written written (λ same. other p its (sym same)), there.written);
              ins = (else_of (other_end p.end) (other_end x) p.read (K.in_name h.input) its.read read (λ same. across_read p its (sym same)), there.ins);
              reads = there.read;
              writes = λ writes. else_of p.end (other_end x) p.written (K.in_name h.input) its.written read (across_back p its);
            };
      }

    -- each end on its way to it may join it still
    may_still : (m : ℕ) → MayTakeEnds K (is_now K before now d e n (Some t) m)
    may_still m = record {
      distinct = sends.distinct K.exact may.distinct;
      binds = λ x h coming written read.
          let at = ap (λ (i : ℕ). coming_to e (slot_after i (moments_of e)).0 x) (sym called.owner) ∙ coming in
          fits_now x h at written read
          (may.binds x h (sends.coming (slot_after o (moments_of d)).0 x (ap (λ (i : SlotId). coming_to e i.0 x) (sym slot) ∙ at)) (sym (sends.names x) ∙ written) (sym (sends.names (other_end x)) ∙ read));
    }

-- ---- a call of it that does not close it

module _ {W N O I S T : Type 0} {made : Bool} {may_make : EndId → ℕ → ℕ → Type 0} (K : Known S O I N) (before now : S) (d e : Lent (Given N O I) N T) (n : ℕ) (s t : SockCore AnySock W N O I) (is : IsLentTo K before d n s)
    (called : IsCalled K made may_make before d (Some s) now e (Some t)) where
  -- one moment more
  module _ (mo : Moment N T) (more : moments_of e ≡ moments_of d ++ mo ∷ []) (of_it : IsOfItem s.number.0 mo.found mo.item) (free : closes s.number.0 mo.item ≡ false)
      (opens : OpensBy made may_make s.number.0 mo) (counts : counts_with K.out_name (counts_by K before (Some s)) (holding_of kind_told (Some s)) mo.item) where
    call : IsOneCall d e mo
    call = one_call K before now d e n s t is called mo more of_it free

    stays : StaysOpen s.number.0 d e
    stays = stays_so K before now d e n s t is called mo more of_it free

    -- those that joined are those that the item tells
    joins_are : joins_of s.number.0 mo ≡ came_with mo.item
    joins_are =
        subst (λ (m : Moment N T). joins_of s.number.0 m ≡ came_with m.item) (one d e called.grows called.order mo more).moment_is (go K before now d e n s t is called mo more of_it stays.is_open).joins

    told_all : All (IsTold e.items) (came_with mo.item)
    told_all =
        let items = (moments_are_last (Given N O I) N T d e mo call).items in
        subst (All (IsTold e.items)) joins_are
        (All-filter (λ j. control_owner (left_by mo) j.end == s.number.0) (IsTold e.items) (joined_in mo.item)
        (subst (λ (xs : List (Item N T)). All (IsTold xs) (joined_in mo.item)) (sym items) (named_last [] d.items mo.item (subst (AreNamed []) items called.order.order.named))))

    abbrev ends_were : List EndId
    ends_were = ends_of s.number.0 (left_was K before now d e n s t is called mo more of_it stays.is_open)

    told_its : (j : Joining N) → IsOneOf (came_with mo.item) j → IsOfIts s.number.0 e j.end j.written j.read
    told_its j one =
        let told = one_of_all (IsTold e.items) (came_with mo.item) j told_all one in
        record {
          its =
              ap (list_any (is_end j.end)) (ends_same K before now d e n s t is called mo more of_it stays.is_open ∙ ends_behind K before now d e n s t is called mo more of_it stays.is_open)
              ∙ list_any-append (is_end j.end) ends_were (map (λ (x : Joining N). x.end) (came_with mo.item))
              ∙ or_second (list_any (is_end j.end) ends_were) (list_any (is_end j.end) (map (λ (x : Joining N). x.end) (came_with mo.item))) (joined_among (came_with mo.item) j one);
          written = told.written;
          read = told.read;
        }

    -- each change of a pipe was at a place of an end of its own
    pub changed_its : AreChangedAt (λ j p. ∥ IsOfIts s.number.0 e p.end p.written p.read ∥₁) 0 t.ends.places.items called.does.changes
    changed_its =
        changed_so K before now d e n (n + 1) s t is called (lent_behind K before now d e n s t is called mo more of_it free opens counts) (came_with mo.item)
        (joins_more K before now d e n s t is called mo more of_it stays.is_open) told_its (ends_stay_its (Given N O I) N T d e mo call s.number.0 is.owned.is_open free)

    -- and each end on its way to it may join it still, where it made no request
    pub may_behind : is_request mo.item ≡ false → MayTakeEnds K (was K before now d e n (Some s)) → (m : ℕ) → MayTakeEnds K (is_now K before now d e n (Some t) m)
    may_behind none may =
        may_still K before now d e n (n + 1) s t is called (lent_behind K before now d e n s t is called mo more of_it free opens counts) (came_with mo.item)
        (joins_more K before now d e n s t is called mo more of_it stays.is_open) told_its (ends_stay_its (Given N O I) N T d e mo call s.number.0 is.owned.is_open free)
        (requests_alone_send (Given N O I) N T d e mo call none) stays.slot may

  -- or none
  module _ (same : moments_of e ≡ moments_of d) where
    none_joined : standing_joins t.joins.items ≡ standing_joins s.joins.items ++ []
    none_joined = called.keeps.came [] (same ∙ sym (append-nil (moments_of d)))

    stay_its : (x : EndId) → is_its_end s.number.0 d x ≡ true → is_its_end s.number.0 e x ≡ true
    stay_its x its = ap (λ (ms : List (Moment N T)). list_any (is_end x) (ends_of s.number.0 (left_after s.number.0 ms))) same ∙ its

    pub changed_none : AreChangedAt (λ j p. ∥ IsOfIts s.number.0 e p.end p.written p.read ∥₁) 0 t.ends.places.items called.does.changes
    changed_none = changed_so K before now d e n n s t is called (lent_stays K before now d e n s t is called same) [] none_joined (λ j one. absurd one) stay_its

    pub may_stays : MayTakeEnds K (was K before now d e n (Some s)) → (m : ℕ) → MayTakeEnds K (is_now K before now d e n (Some t) m)
    may_stays may =
        may_still K before now d e n n s t is called (lent_stays K before now d e n s t is called same) [] none_joined (λ j one. absurd one) stay_its
        (no_moment_no_item (Given N O I) N T d e is.order called.order called.grows same).sends (ap (slot_after s.number.0) same) may

-- the same of a socket that is there
module _ {W N O I S T : Type 0} {made : Bool} {may_make : EndId → ℕ → ℕ → Type 0} (K : Known S O I N) (before now : S) (d e : Lent (Given N O I) N T) (n : ℕ) where
  pub still_may : (old new : Option (SockCore AnySock W N O I)) → IsThereFor K before d n old → IsCalled K made may_make before d old now e new → moments_of e ≡ moments_of d
      → MayTakeEnds K (was K before now d e n old) → (m : ℕ) → MayTakeEnds K (is_now K before now d e n new m)
  still_may None new is called same may m = absurd is
  still_may (Some s) None is called same may m = absurd called.fits
  still_may (Some s) (Some t) is called same may m = may_stays K before now d e n s t is called same may m
