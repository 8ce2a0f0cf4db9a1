-- What is on its way stays unsealed over a call of the reaper.
use Rattle.std.specs.Prelude.{◌&&◌, ◌||◌, ◌≡◌, ◌≤◌, ◌==◌, ◌+◌, ◌++◌, ◌∷◌, [], ℕ, Bool, true, false, List, Some, All, length, refl}
use Rattle.std.specs.List.{AllByRecursion, list_any}
use Rattle.std.proofs.Common.{arith, sym, ap, ◌∙◌, subst, inl, inr}
use Rattle.std.proofs.lemmas.Bool.{eq-eqb}
use Rattle.std.proofs.lemmas.List.Elements.{All-head, All-tail}
use Rattle.std.proofs.Math.Logic.{∥∥₁_elim}
use Rattle.zq_base.specs.Ends.{other_end}
use Rattle.zq_base.specs.declared.ids.EndId.{EndId}
use Rattle.msg_pipe.specs.Known.{Known, IsElse, IsThere}
use Rattle.spec_pattern.specs.Half.{Writing}
use Rattle.spec_control.specs.declared.entry.Item.{Item}
use Rattle.spec_control.specs.declared.end.EndState.TheVariants.{Gone}
use Rattle.spec_control.specs.Place.{At, is_away, is_here}
use Rattle.spec_control.specs.Rows.{obj}
use Rattle.spec_control.specs.Control.{Control, begun, is_end, owner_of, place_of}
use Rattle.spec_control.specs.ControlRun.{after_all}
use Rattle.spec_control.specs.Names.{name_of}
use Rattle.control_laws.proofs.ListLemmas.{and, left, never}
use Rattle.spec_control.specs.Moments.{Moment, moments_from}
use Rattle.ctl_moves.proofs.HeldLemmas.{other_twice}
use Rattle.desk.specs.declared.given.Given.{Given}
use Rattle.desk.specs.Lent.{has_writer}
use Rattle.ctl_plane.specs.Past.{control_of}
use Rattle.desk.specs.Desk.{HasWhatTheySay}
use Rattle.end_table.specs.declared.changes.PipeChange.{PipeChange}
use Rattle.end_table.specs.declared.changes.PipeChange.TheVariants.{Kept, Made, Sealed, SealedAgain, Parted, Settled}
use Rattle.end_table.specs.declared.table.Place.{Place}
use Rattle.end_table.specs.Changes.{DoesChange, DoesChanges, PartedBy, SealedBy}
use Rattle.end_table.specs.Others.{IsLess, KeepsPlaces}
use Rattle.end_table.specs.Places.{place_at}
use Rattle.end_table.proofs.EndsLemmas.{some_place}
use Rattle.socket_laws.specs.Names.{NamesStand}
use Rattle.sock_core.proofs.FindLemmas.{same_end}
use Rattle.closed_ends.specs.declared.sockets.ClosedSockets.{ClosedSockets}
use Rattle.closed_ends.specs.Has.{all_ends, holding_in, is_of}
use Rattle.closed_ends.specs.Noted.{first_places, HasDoneTo, StoodFirst}
use Rattle.core_laws.specs.ReaperCalls.{came_since}
use Rattle.core_laws.specs.Moves.{EndsGoOn}
use Rattle.core_laws.proofs.ReaperCallLemmas.{behind as dropped_behind}
use Rattle.core_laws.proofs.GoLemmas.{split_at}
use Rattle.core_laws.proofs.MoveLemmas.{is_gone, its}
use Rattle.plain_desk.specs.Lent.{coming_to, moments_of, GrowsBy, IsOneOrder, Lent}
use Rattle.socket_laws.specs.Behind.{is_request, IsOneCall}
use Rattle.socket_laws.proofs.LastLemmas.{grown}
use Rattle.socket_laws.proofs.SendLemmas.{requests_alone_send}
use Rattle.socket_laws.proofs.SocketLemmas.{kept_now}
use Rattle.core_laws.proofs.ApartLemmas.{is_out, not_second, other_out}
use Rattle.core_laws.specs.ReapedComing.{AwayUnsealed}
use Rattle.core_laws.specs.Ends.{ReaperDid, ReaperGoesOn}
use Rattle.core_laws.proofs.ReapedComingLemmas.{ends_here, here_not_away}
use Rattle.core_laws.proofs.GrowLemmas.{leads_to}
use Rattle.core_laws.specs.Reaped.{ReaperKeepsUnsealed}

-- ---- changes leave a pipe that no end writes which stood, and that none read which is held no more
module _ {S O I N : Type 0} (K : Known S O I N) (h : O) (ps : List (Place N I)) (apart : (k : ℕ) (q : Place N I) → place_at ps k ≡ Some q → IsElse K (K.out_name h) q.written)
    (unread : (k : ℕ) (q : Place N I) → place_at ps k ≡ Some q → q.held ≡ false → IsElse K (K.out_name h) q.read) where
  -- it is there still, and is known to be as it was
  record IsLeft (old new : S) : Type 0 where
    there : IsThere K new (K.out_name h)
    same : K.writing new h ≡ K.writing old h

  sealed_left : (k : ℕ) (e : EndId) (half : List (O × Unit {0})) (old new : S) → SealedBy K ps k e half old new → IsThere K old (K.out_name h) → IsLeft old new
  sealed_left k e [] old new d there = absurd d
  sealed_left k e (lent ∷ []) old new d there = absurd d
  sealed_left k e (lent ∷ back ∷ []) old new d there =
      let p = some_place ps k d.placed.within in
      record { there = d.keeps.there (K.out_name h) there; same = d.keeps.outs h there (λ exact same. apart k p.0 p.1 exact (same ∙ d.pipe_is p.0 p.1)) }
  sealed_left k e (lent ∷ back ∷ x ∷ xs) old new d there = absurd d

  parted_left : (k : ℕ) (e : EndId) (half : List (O × Unit {0})) (old new : S) → PartedBy K ps k e half old new → IsThere K old (K.out_name h) → IsLeft old new
  parted_left k e [] old new d there = absurd d
  parted_left k e (lent ∷ []) old new d there = absurd d
  parted_left k e (lent ∷ back ∷ []) old new d there =
      let p = some_place ps k d.placed.within in
      record { there = d.keeps.there (K.out_name h) there; same = d.keeps.outs h there (λ exact same. apart k p.0 p.1 exact (same ∙ d.pipe_is p.0 p.1)) }
  parted_left k e (lent ∷ back ∷ x ∷ xs) old new d there = absurd d

  change_left : (fs : List (Place N I)) (x : PipeChange O I) (old new : S) → StoodFirst fs x → DoesChange K ps x old new → IsThere K old (K.out_name h) → IsLeft old new
  change_left fs Kept old new stood d there = record { there = d.there (K.out_name h) there; same = d.outs h there }
  change_left fs (Made e capacity halves) old new stood d there = absurd stood
  change_left fs (Sealed k e half) old new stood d there = sealed_left k e half.items old new d there
  change_left fs (SealedAgain k e) old new stood d there = record { there = subst (λ (s : S). IsThere K s (K.out_name h)) (sym d.stays) there; same = ap (λ (s : S). K.writing s h) d.stays }
  change_left fs (Parted k e half) old new stood d there = parted_left k e half.items old new d there
  change_left fs (Settled k e) old new stood d there =
      let p = some_place ps k d.placed.within in
      let keeps = d.keeps p.0 p.1 in
      record { there = keeps.there (K.out_name h) there; same = keeps.outs h there (unread k p.0 p.1 (d.gone p.0 p.1)) }

  pub changes_left : (fs : List (Place N I)) (xs : List (PipeChange O I × S)) (old new : S) → AllByRecursion (λ x. StoodFirst fs x.0) xs → DoesChanges K ps old xs new → IsThere K old (K.out_name h) → K.writing new h ≡ K.writing old h
  changes_left fs [] old new stood d there = ap (λ (s : S). K.writing s h) d
  changes_left fs (x ∷ xs) old new stood d there = let one = change_left fs x.0 old x.1 stood.0 d.0 there in changes_left fs xs x.1 new stood.1 d.1 one.there ∙ one.same

-- ---- and a reading half, where its pipe was none of those that were given up
module _ {S O I N : Type 0} (K : Known S O I N) (i : I) (ps : List (Place N I)) (unread : (k : ℕ) (q : Place N I) → place_at ps k ≡ Some q → q.held ≡ false → IsElse K (K.in_name i) q.read) where
  record IsRead (old new : S) : Type 0 where
    there : IsThere K new (K.in_name i)
    same : K.reading new i ≡ K.reading old i

  sealed_read : (k : ℕ) (e : EndId) (half : List (O × Unit {0})) (old new : S) → SealedBy K ps k e half old new → IsThere K old (K.in_name i) → IsRead old new
  sealed_read k e [] old new d there = absurd d
  sealed_read k e (lent ∷ []) old new d there = absurd d
  sealed_read k e (lent ∷ back ∷ []) old new d there = record { there = d.keeps.there (K.in_name i) there; same = d.keeps.ins i there }
  sealed_read k e (lent ∷ back ∷ x ∷ xs) old new d there = absurd d

  parted_read : (k : ℕ) (e : EndId) (half : List (O × Unit {0})) (old new : S) → PartedBy K ps k e half old new → IsThere K old (K.in_name i) → IsRead old new
  parted_read k e [] old new d there = absurd d
  parted_read k e (lent ∷ []) old new d there = absurd d
  parted_read k e (lent ∷ back ∷ []) old new d there = record { there = d.keeps.there (K.in_name i) there; same = d.keeps.ins i there }
  parted_read k e (lent ∷ back ∷ x ∷ xs) old new d there = absurd d

  change_read : (fs : List (Place N I)) (x : PipeChange O I) (old new : S) → StoodFirst fs x → DoesChange K ps x old new → IsThere K old (K.in_name i) → IsRead old new
  change_read fs Kept old new stood d there = record { there = d.there (K.in_name i) there; same = d.ins i there }
  change_read fs (Made e capacity halves) old new stood d there = absurd stood
  change_read fs (Sealed k e half) old new stood d there = sealed_read k e half.items old new d there
  change_read fs (SealedAgain k e) old new stood d there = record { there = subst (λ (s : S). IsThere K s (K.in_name i)) (sym d.stays) there; same = ap (λ (s : S). K.reading s i) d.stays }
  change_read fs (Parted k e half) old new stood d there = parted_read k e half.items old new d there
  change_read fs (Settled k e) old new stood d there =
      let p = some_place ps k d.placed.within in
      let keeps = d.keeps p.0 p.1 in
      record { there = keeps.there (K.in_name i) there; same = keeps.ins i there (unread k p.0 p.1 (d.gone p.0 p.1)) }

  pub changes_read : (fs : List (Place N I)) (xs : List (PipeChange O I × S)) (old new : S) → AllByRecursion (λ x. StoodFirst fs x.0) xs → DoesChanges K ps old xs new → IsThere K old (K.in_name i) → K.reading new i ≡ K.reading old i
  changes_read fs [] old new stood d there = ap (λ (s : S). K.reading s i) d
  changes_read fs (x ∷ xs) old new stood d there = let one = change_read fs x.0 old x.1 stood.0 d.0 there in changes_read fs xs x.1 new stood.1 d.1 one.there ∙ one.same

-- what is so of each of these ends is so of one among them
pub of_one : {N O I : Type 0} (P : EndId → Type 0) (x : EndId) (gs : List (Given N O I)) → All (λ g. P g.end) gs → list_any (is_of x) gs ≡ true → P x
of_one P x [] all is = absurd (never is)
of_one {N} {O} {I} P x (g ∷ gs) all is = by (is_end x g.end) refl is (of_one P x gs (All-tail (λ (y : Given N O I). P y.end) g gs all))
  where
    by : (b : Bool) → is_end x g.end ≡ b → (b || list_any (is_of x) gs) ≡ true → (list_any (is_of x) gs ≡ true → P x) → P x
    by true same h rest = subst P (sym (same_end x g.end same)) (All-head (λ (y : Given N O I). P y.end) g gs all)
    by false other h rest = rest h

-- ---- what is on its way to a mailbox behind a call was so before
module _ {S O I N T : Type 0} (K : Known S O I N) (old new : Lent (Given N O I) N T) (before behind : S) (from to : ClosedSockets N O I) (changes : List (PipeChange O I × S)) (did : ReaperDid K old new before behind from to changes) (slot : ℕ) (e : EndId) where
  pub coming_then : coming_to new slot e ≡ true → coming_to old slot e ≡ true
  coming_then coming = by did.call.grows.more refl did.call.few did.call.asks_none
    where
      by : (xs : List (Item N T)) → did.call.grows.more ≡ xs → length xs ≤ 1 → All (λ x. is_request x ≡ false) xs → coming_to old slot e ≡ true
      by [] none few asks =
          let was : IsOneOrder old = did.call.before in
          let same : control_of old.past ≡ control_of new.past =
          was.control ∙ ap (λ (xs : List (Item N T)). after_all xs (after_all old.items (begun old.past.workers))) (sym none) ∙ sym (leads_to old new did.call.behind did.call.grows) in
          ap (λ (x : Control). is_away (place_of x e) && slot == (obj x.rows (owner_of x e)).slot) same ∙ coming
      by (x ∷ []) one few asks =
          let m : Moment N T = record { found = after_all old.items (begun old.past.workers); item = x } in
          let call : IsOneCall old new m = record {
            before = did.call.before;
            behind = did.call.behind;
            grows = did.call.grows;
            one_more = grown old new did.call.grows ∙ ap (λ (xs : List (Item N T)). moments_of old ++ moments_from (after_all old.items (begun old.past.workers)) xs) one;
          } in
          let sends = requests_alone_send (Given N O I) N T old new m call (All-head (λ (y : Item N T). is_request y ≡ false) x [] asks) in
          sends.coming slot e coming
      by (x ∷ y ∷ ys) many few asks = absurd (omega (arith, few))

-- ---- over a call in which the ends go on
module _ {S O I N T : Type 0} (K : Known S O I N) (old new : Lent (Given N O I) N T) (before behind : S) (from to : ClosedSockets N O I) (changes : List (PipeChange O I × S)) (did : ReaperDid K old new before behind from to changes)
    (go : ReaperGoesOn K old new did.call from to) (e : EndId) (here : is_here (place_of (control_of new.past) e) ≡ true) (none : list_any (is_of e) (all_ends to.sockets.items) ≡ true → ⊥) where
  -- an end that is there behind it, and that the reaper does not have, has no place
  pub not_placed : (k : ℕ) (p : Place N I) → place_at (first_places K.in_name from (came_since from to)) k ≡ Some p → e ≡ p.end → ⊥
  not_placed k p at same = by (list_any (is_of p.end) (all_ends to.sockets.items)) refl
    where
      by : (b : Bool) → list_any (is_of p.end) (all_ends to.sockets.items) ≡ b → ⊥
      by true is = none (ap (λ (x : EndId). list_any (is_of x) (all_ends to.sockets.items)) same ∙ is)
      by false is =
          let ends = go.ends in
          never (ap is_here (sym (ends.gone k p at is).gone) ∙ ap (λ (x : EndId). is_here (place_of (control_of new.past) x)) (sym same) ∙ here)

module _ {S O I N T : Type 0} (K : Known S O I N) (old new : Lent (Given N O I) N T) (before behind : S) (from to : ClosedSockets N O I) (changes : List (PipeChange O I × S)) (did : ReaperDid K old new before behind from to changes)
    (go : ReaperGoesOn K old new did.call from to) (names : NamesStand K (control_of old.past) (name_of old.items) before) (e : EndId) where
  -- what an end writes is left that has no place, and is across none that is gone
  module _ (h : O) (named : name_of old.items e ≡ Some (K.out_name h)) (no_place : (k : ℕ) (p : Place N I) → place_at (first_places K.in_name from (came_since from to)) k ≡ Some p → e ≡ p.end → ⊥)
      (not_across : (k : ℕ) (p : Place N I) → place_at (first_places K.in_name from (came_since from to)) k ≡ Some p → place_of (control_of new.past) p.end ≡ At Gone → e ≡ other_end p.end → ⊥) where
    pub written_left : HasDoneTo K before from changes behind to → K.writing behind h ≡ K.writing before h
    written_left done =
        let same : done.came ≡ came_since from to = sym (dropped_behind from.came.items done.came to.came.items done.came_are) in
        let count = subst (λ x. length done.places ≡ length (first_places K.in_name from x)) same done.count in
        let keeps = subst (λ x. KeepsPlaces (first_places K.in_name from x) done.places) same done.keeps in
        let place = its K (control_of old.past) (control_of new.past) from to go.ends done.places count keeps done.standing in
        let gone = is_gone K (control_of old.past) (control_of new.past) from to go.ends done.places count keeps done.standing in
        changes_left K h done.places (λ k q at. apart done.places keeps k q at (place k q at).0 (place k q at).1)
        (λ k q at off. unread done.places keeps k q at (place k q at).0 (place k q at).1 (gone k q at off).gone)
        (first_places K.in_name from done.came) done.placed before behind done.wrote done.does (names.there e (K.out_name h) named)
      where
        apart : (ps : List (Place N I)) → KeepsPlaces (first_places K.in_name from (came_since from to)) ps → (k : ℕ) (q : Place N I) → place_at ps k ≡ Some q → (p : Place N I) → place_at (first_places K.in_name from (came_since from to)) k ≡ Some p → IsElse K (K.out_name h) q.written
        apart ps keeps k q at p first exact same =
            let less : IsLess p q = keeps.each k p q first at in
            no_place k p first (names.distinct exact e p.end (K.out_name h) named ((go.named k p first).0 ∙ ap (λ (n : N). Some n) (sym (same ∙ less.written_is))))

        unread : (ps : List (Place N I)) → KeepsPlaces (first_places K.in_name from (came_since from to)) ps → (k : ℕ) (q : Place N I) → place_at ps k ≡ Some q → (p : Place N I) → place_at (first_places K.in_name from (came_since from to)) k ≡ Some p → place_of (control_of new.past) q.end ≡ At Gone → IsElse K (K.out_name h) q.read
        unread ps keeps k q at p first gone exact same =
            let less : IsLess p q = keeps.each k p q first at in
            not_across k p first (ap (place_of (control_of new.past)) (sym less.end_is) ∙ gone) (names.distinct exact e (other_end p.end) (K.out_name h) named ((go.named k p first).1 ∙ ap (λ (n : N). Some n) (sym (same ∙ less.read_is))))

  -- and what it reads, where it has no place
  module _ (i : I) (named : name_of old.items (other_end e) ≡ Some (K.in_name i)) (no_place : (k : ℕ) (p : Place N I) → place_at (first_places K.in_name from (came_since from to)) k ≡ Some p → e ≡ p.end → ⊥) where
    pub read_left : HasDoneTo K before from changes behind to → K.reading behind i ≡ K.reading before i
    read_left done =
        let same : done.came ≡ came_since from to = sym (dropped_behind from.came.items done.came to.came.items done.came_are) in
        let count = subst (λ x. length done.places ≡ length (first_places K.in_name from x)) same done.count in
        let keeps = subst (λ x. KeepsPlaces (first_places K.in_name from x) done.places) same done.keeps in
        let place = its K (control_of old.past) (control_of new.past) from to go.ends done.places count keeps done.standing in
        changes_read K i done.places (λ k q at off. unread done.places keeps k q at (place k q at).0 (place k q at).1)
        (first_places K.in_name from done.came) done.placed before behind done.wrote done.does (names.there (other_end e) (K.in_name i) named)
      where
        unread : (ps : List (Place N I)) → KeepsPlaces (first_places K.in_name from (came_since from to)) ps → (k : ℕ) (q : Place N I) → place_at ps k ≡ Some q → (p : Place N I) → place_at (first_places K.in_name from (came_since from to)) k ≡ Some p → IsElse K (K.in_name i) q.read
        unread ps keeps k q at p first exact same =
            let less : IsLess p q = keeps.each k p q first at in
            let one = names.distinct exact (other_end e) (other_end p.end) (K.in_name i) named ((go.named k p first).1 ∙ ap (λ (n : N). Some n) (sym (same ∙ less.read_is))) in
            no_place k p first (sym (other_twice e) ∙ ap other_end one ∙ other_twice p.end)

module _ {S O I N T : Type 0} (K : Known S O I N) (old new : Lent (Given N O I) N T) (before behind : S) (from to : ClosedSockets N O I) (changes : List (PipeChange O I × S)) (did : ReaperDid K old new before behind from to changes)
    (go : ReaperGoesOn K old new did.call from to) (names : NamesStand K (control_of old.past) (name_of old.items) before) (free : AwayUnsealed K old before) where
  abbrev c : Control
  c = control_of old.past

  abbrev now : Control
  now = control_of new.past

  abbrev found : Control
  found = after_all old.items (begun old.past.workers)

  was_order : IsOneOrder old
  was_order = did.call.before

  order : IsOneOrder new
  order = did.call.behind

  abbrev grows : GrowsBy old new
  grows = did.call.grows

  ends : EndsGoOn K.in_name (control_of old.past) (control_of new.past) from to
  ends = go.ends

  say_now : HasWhatTheySay new.caller (moments_of new) (holding_in K.out_name K.in_name to)
  say_now = did.keeps.has

  module _ (e : EndId) (h : O) (away : is_away (place_of (control_of new.past) e) ≡ true) (written : name_of new.items e ≡ Some (K.out_name h)) where
    named_then : name_of old.items e ≡ Some (K.out_name h)
    named_then = sym (go.names e) ∙ written

    coming : coming_to new (obj (control_of new.past).rows (owner_of (control_of new.past) e)).slot e ≡ true
    coming = (let slot = (obj now.rows (owner_of now e)).slot in and (is_away (place_of now e)) (slot == slot) away (eq-eqb slot slot refl))

    away_then : is_away (place_of (control_of old.past) e) ≡ true
    away_then =
        left (is_away (place_of c e)) _ (coming_then K old new before behind from to changes did (obj now.rows (owner_of now e)).slot e coming)

    -- it has no place
    no_place : (k : ℕ) (p : Place N I) → place_at (first_places K.in_name from (came_since from to)) k ≡ Some p → e ≡ p.end → ⊥
    no_place k p at same =
        elim (split_at ends.was ends.since k p (sym (ap (λ (ps : List (Place N I)). place_at ps k) ends.are) ∙ at)) [
          | inl front ↦ here_not_away (place_of c p.end) (ends.held k p front).here (subst (λ (x : EndId). is_away (place_of c x) ≡ true) same away_then)
          | inr back ↦
              here_not_away (place_of now p.end)
              (of_one (λ x. is_here (place_of now x) ≡ true) p.end (all_ends to.sockets.items) (λ k g lt. (ends_here K new order behind to did.sound say_now k g lt).here) (ends.stand back.0 p back.1))
              (subst (λ (x : EndId). is_away (place_of now x) ≡ true) same away)
        ]

    not_across : (p : Place N I) → place_of (control_of new.past) p.end ≡ At Gone → e ≡ other_end p.end → ⊥
    not_across p gone same =
        not_second (has_writer (place_of now e)) (is_away (place_of now e)) (ap (λ (x : EndId). is_out (place_of now x)) same ∙ other_out now (kept_now new order) p.end gone) away

    unsealed_by : HasDoneTo K before from changes behind to → (K.writing behind h).sealed ≡ false
    unsealed_by done =
        ap (λ (w : Writing). w.sealed) (written_left K old new before behind from to changes did go names e h named_then no_place (λ k p first gone. not_across p gone) done) ∙ free e h away_then named_then

    unsealed : (K.writing behind h).sealed ≡ false
    unsealed = by (K.writing behind h).sealed refl
      where
        by : (b : Bool) → (K.writing behind h).sealed ≡ b → b ≡ false
        by false is = refl
        by true is = absurd (∥∥₁_elim did.done (λ x y. absurd x) (λ done. never (sym (unsealed_by done) ∙ is)))

pub reaper_keeps_unsealed : {S O I N : Type 0} (K : Known S O I N) (T : Type 0) → ReaperKeepsUnsealed K T
reaper_keeps_unsealed K T old new before behind from to changes did goes names free e h away written = by (K.writing behind h).sealed refl
  where
    by : (b : Bool) → (K.writing behind h).sealed ≡ b → b ≡ false
    by false is = refl
    by true is = absurd (∥∥₁_elim goes (λ x y. absurd x) (λ go. never (sym (unsealed K old new before behind from to changes did go names free e h away written) ∙ is)))
