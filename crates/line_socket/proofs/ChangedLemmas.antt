-- What a call of a lent socket on the control plane leaves of the pipes that are not of its ends, change by change.
use Rattle.std.proofs.Common.{◌≡◌, ◌∙◌, ◌≤◌, ℕ, Bool, true, false, List, [], ◌∷◌, Option, Some, None, refl, sym, ap, subst, if◌then◌else◌, arith}
use Rattle.std.specs.Option.{option_or}
use Rattle.zq_base.specs.declared.ids.EndId.{EndId}
use Rattle.spec_pattern.specs.Half.{Writing}
use Rattle.spec_control.specs.Control.{is_end}
use Rattle.spec_control.specs.Names.{name_of}
use Rattle.msg_pipe.specs.Known.{Known, IsElse, IsThere}
use Rattle.ctl_plane.specs.Past.{control_of}
use Rattle.end_table.specs.declared.changes.PipeChange.{PipeChange}
use Rattle.end_table.specs.declared.changes.PipeChange.TheVariants.{Kept, Made, Sealed, SealedAgain, Parted, Settled}
use Rattle.end_table.specs.declared.table.Place.{Place}
use Rattle.end_table.specs.Changes.{DoesChange, DoesChanges, IsPlaced, MadeWith, PartedBy, SealedBy, made_by, made_last, made_with}
use Rattle.end_table.specs.Places.{place_at}
use Rattle.end_table.proofs.EndsLemmas.{some_place}
use Rattle.sock_core.specs.Came.{AreChangedAt, IsChangedAt}
use Rattle.plain_desk.specs.Lent.{Lent}
use Rattle.socket_laws.specs.Places.{IsOwnPlace}
use Rattle.socket_laws.specs.Changes.{NamesGoOn}
use Rattle.socket_laws.proofs.NamesLemmas.{stays_all}
use Rattle.socket_laws.specs.Calling.{IsExact}
use Rattle.line_socket.specs.Leaving.{IsNoneItReads, IsNoneItSettled, IsNoneItWrites, LeavesPipes, NamesStandIn, TellsRest}
use Rattle.line_socket.specs.LeavingOwed.{no_reader, no_writer}

none_some : {X : Type 0} {x : X} → None ≡ Some x → ⊥
none_some e = Prim.grind arith

some_is : {X : Type 0} {x y : X} → Some x ≡ Some y → x ≡ y
some_is e = Prim.grind arith

module _ {S O I N : Type 0} (K : Known S O I N) {G T : Type 0} (o : ℕ) (d : Lent G N T) (ps : List (Place N I)) where
  -- a place of an end that the object has or had
  abbrev Own : ℕ → Place N I → Type 0
  Own k p = IsOwnPlace (control_of d.past) (name_of d.items) o p

  abbrev OwnAt : ℕ → Type 0
  OwnAt k = 0 ≤ k → (p : Place N I) → place_at ps k ≡ Some p → Own k p

  -- the one that a change was made at
  record At (k : ℕ) : Type 0 where
    place : Place N I
    there : place_at ps k ≡ Some place
    own : IsOwnPlace (control_of d.past) (name_of d.items) o place

  own_at : (k : ℕ) (e : EndId) → IsPlaced ps k e → OwnAt k → At k
  own_at k e placed own = let p = some_place ps k placed.within in record { place = p.0; there = p.1; own = own (omega arith) p.0 p.1 }

  -- ---- a half that writes
  module _ (h : O) (writes : IsNoneItWrites K o d (K.out_name h)) (settled : IsNoneItSettled K o d (K.out_name h) (control_of d.past)) where
    apart : (k : ℕ) (e : EndId) (lent : O) → IsPlaced ps k e → ((p : Place N I) → place_at ps k ≡ Some p → K.out_name lent ≡ p.written) → OwnAt k → IsElse K (K.out_name h) (K.out_name lent)
    apart k e lent placed pipe_is own = let p = own_at k e placed own in λ ex same. writes p.place.end p.place.written p.own.its p.own.written ex (same ∙ pipe_is p.place p.there)

    made_out : (capacity : ℕ) (hs : List (O × I)) (old new : S) → MadeWith K capacity hs old new → IsThere K old (K.out_name h) → K.writing new h ≡ K.writing old h
    made_out capacity [] old new does is = absurd does
    made_out capacity (x ∷ hs) old new does is = does.1.outs h is

    sealed_out : (k : ℕ) (e : EndId) (hs : List (O × Unit {0})) (old new : S) → SealedBy K ps k e hs old new → OwnAt k → IsThere K old (K.out_name h) → K.writing new h ≡ K.writing old h
    sealed_out k e [] old new does own is = absurd does
    sealed_out k e (x ∷ []) old new does own is = absurd does
    sealed_out k e (x ∷ y ∷ []) old new does own is = does.keeps.outs h is (apart k e x.0 does.placed does.pipe_is own)
    sealed_out k e (x ∷ y ∷ z ∷ hs) old new does own is = absurd does

    parted_out : (k : ℕ) (e : EndId) (hs : List (O × Unit {0})) (old new : S) → PartedBy K ps k e hs old new → OwnAt k → IsThere K old (K.out_name h) → K.writing new h ≡ K.writing old h
    parted_out k e [] old new does own is = absurd does
    parted_out k e (x ∷ []) old new does own is = absurd does
    parted_out k e (x ∷ y ∷ []) old new does own is = does.keeps.outs h is (apart k e x.0 does.placed does.pipe_is own)
    parted_out k e (x ∷ y ∷ z ∷ hs) old new does own is = absurd does

    out_one : (change : PipeChange O I) (old new : S) → DoesChange K ps change old new → IsChangedAt Own 0 ps change → IsThere K old (K.out_name h) → K.writing new h ≡ K.writing old h
    out_one Kept old new does own is = does.outs h is
    out_one (Made e capacity halves) old new does own is = made_out capacity halves.items old new does is
    out_one (Sealed k e half) old new does own is = sealed_out k e half.items old new does own is
    out_one (SealedAgain k e) old new does own is = ap (λ (s : S). K.writing s h) does.stays
    out_one (Parted k e half) old new does own is = parted_out k e half.items old new does own is
    out_one (Settled k e) old new does own is =
        let p = own_at k e does.placed own in
        let gone = p.own.gone (does.gone p.place p.there) in
        (does.keeps p.place p.there).outs h is (settled p.place.end p.place.read p.own.its gone p.own.read)

    out_all : (xs : List (PipeChange O I × S)) (old new : S) → DoesChanges K ps old xs new → AreChangedAt Own 0 ps xs → IsThere K old (K.out_name h) → K.writing new h ≡ K.writing old h
    out_all [] old new does own is = ap (λ (s : S). K.writing s h) does
    out_all (x ∷ xs) old new does own is = out_all xs x.1 new does.1 own.1 (stays_all K ps (K.out_name h) (x ∷ []) old x.1 (does.0, refl) is) ∙ out_one x.0 old x.1 does.0 own.0 is

    -- ---- of a pipe that was made
    module _ (exact : IsExact K) (y : EndId) (half : O) (name : K.out_name half ≡ K.out_name h) where
      -- it is there, and not sealed
      record IsOpen (new : S) : Type 0 where
        there : IsThere K new (K.out_name h)
        unsealed : (K.writing new h).sealed ≡ false

      open_now : (capacity : ℕ) (hs : List (O × I)) (old new : S) → MadeWith K capacity hs old new → (c : ℕ) → made_with capacity hs ≡ Some (c, half) → IsOpen new
      open_now capacity [] old new does c is = absurd does
      open_now capacity (x ∷ hs) old new does c is =
          let made = does.0 in
          let same : K.out_name x.0 ≡ K.out_name h = ap (λ (z : ℕ × O). K.out_name z.1) (some_is is) ∙ name in
          record { there = subst (IsThere K new) same made.there; unsealed = ap (λ (w : Writing). w.sealed) (exact.one_out new h x.0 (sym same) ∙ made.writing_is) }

      open_one : (change : PipeChange O I) (old new : S) → DoesChange K ps change old new → (c : ℕ) → made_by y change ≡ Some (c, half) → IsOpen new
      open_one Kept old new does c is = absurd (none_some is)
      open_one (Made e capacity halves) old new does c is = by (is_end e y) is
        where
          by : (b : Bool) → (if b then made_with capacity halves.items else None) ≡ Some (c, half) → IsOpen new
          by true is = open_now capacity halves.items old new does c is
          by false is = absurd (none_some is)
      open_one (Sealed k e half) old new does c is = absurd (none_some is)
      open_one (SealedAgain k e) old new does c is = absurd (none_some is)
      open_one (Parted k e half) old new does c is = absurd (none_some is)
      open_one (Settled k e) old new does c is = absurd (none_some is)

      open_all : (xs : List (PipeChange O I × S)) (old new : S) → DoesChanges K ps old xs new → AreChangedAt Own 0 ps xs → (c : ℕ) → made_last y xs ≡ Some (c, half) → (K.writing new h).sealed ≡ false
      open_all [] old new does own c is = absurd (none_some is)
      open_all (x ∷ xs) old new does own c is = by (made_last y xs) refl is (open_all xs x.1 new does.1 own.1 c)
        where
          by : (m : Option (ℕ × O)) → made_last y xs ≡ m → option_or m (made_by y x.0) ≡ Some (c, half) → (made_last y xs ≡ Some (c, half) → (K.writing new h).sealed ≡ false) → (K.writing new h).sealed ≡ false
          by None none is behind = (let now = open_one x.0 old x.1 does.0 c is in ap (λ (w : Writing). w.sealed) (out_all xs x.1 new does.1 own.1 now.there) ∙ now.unsealed)
          by (Some z) later is behind = behind (later ∙ is)

  -- ---- and one that reads
  module _ (h : I) (reads : IsNoneItReads K o d (K.in_name h)) where
    made_in : (capacity : ℕ) (hs : List (O × I)) (old new : S) → MadeWith K capacity hs old new → IsThere K old (K.in_name h) → K.reading new h ≡ K.reading old h
    made_in capacity [] old new does is = absurd does
    made_in capacity (x ∷ hs) old new does is = does.1.ins h is

    sealed_in : (k : ℕ) (e : EndId) (hs : List (O × Unit {0})) (old new : S) → SealedBy K ps k e hs old new → IsThere K old (K.in_name h) → K.reading new h ≡ K.reading old h
    sealed_in k e [] old new does is = absurd does
    sealed_in k e (x ∷ []) old new does is = absurd does
    sealed_in k e (x ∷ y ∷ []) old new does is = does.keeps.ins h is
    sealed_in k e (x ∷ y ∷ z ∷ hs) old new does is = absurd does

    parted_in : (k : ℕ) (e : EndId) (hs : List (O × Unit {0})) (old new : S) → PartedBy K ps k e hs old new → IsThere K old (K.in_name h) → K.reading new h ≡ K.reading old h
    parted_in k e [] old new does is = absurd does
    parted_in k e (x ∷ []) old new does is = absurd does
    parted_in k e (x ∷ y ∷ []) old new does is = does.keeps.ins h is
    parted_in k e (x ∷ y ∷ z ∷ hs) old new does is = absurd does

    in_one : (change : PipeChange O I) (old new : S) → DoesChange K ps change old new → IsChangedAt Own 0 ps change → IsThere K old (K.in_name h) → K.reading new h ≡ K.reading old h
    in_one Kept old new does own is = does.ins h is
    in_one (Made e capacity halves) old new does own is = made_in capacity halves.items old new does is
    in_one (Sealed k e half) old new does own is = sealed_in k e half.items old new does is
    in_one (SealedAgain k e) old new does own is = ap (λ (s : S). K.reading s h) does.stays
    in_one (Parted k e half) old new does own is = parted_in k e half.items old new does is
    in_one (Settled k e) old new does own is =
        let p = own_at k e does.placed own in
        (does.keeps p.place p.there).ins h is (reads p.place.end p.place.read p.own.its p.own.read)

    in_all : (xs : List (PipeChange O I × S)) (old new : S) → DoesChanges K ps old xs new → AreChangedAt Own 0 ps xs → IsThere K old (K.in_name h) → K.reading new h ≡ K.reading old h
    in_all [] old new does own is = ap (λ (s : S). K.reading s h) does
    in_all (x ∷ xs) old new does own is = in_all xs x.1 new does.1 own.1 (stays_all K ps (K.in_name h) (x ∷ []) old x.1 (does.0, refl) is) ∙ in_one x.0 old x.1 does.0 own.0 is

  -- ---- all of it
  module _ (c : Lent G N T) (before now : S) (changes : List (PipeChange O I × S)) (does : DoesChanges K ps before changes now) (own : AreChangedAt Own 0 ps changes) where
    pub changes_leave : LeavesPipes K o d (control_of d.past) before now
    changes_leave = record {
      there = λ n is. stays_all K ps n changes before now does is;
      outs = λ h is writes settled. out_all h writes settled changes before now does own is;
      ins = λ h is reads. in_all h reads changes before now does own is;
    }

    pub changes_tell : NamesGoOn K (control_of c.past) (control_of d.past) changes (name_of c.items) (name_of d.items) → (K.exact ≡ true → NamesStandIn K c before → NamesStandIn K d now) → TellsRest K o c d before now
    changes_tell go stay = record {
      pipes = changes_leave;
      unsealed = λ exact names y none not_its reader h is.
          let named = stay exact.exact names in
          let made = go.more y (K.out_name h) none is in
          open_all h (no_writer K o d now named y not_its reader h is) (no_reader K o d now named y not_its reader h is) exact y made.half made.name_is changes before now does own made.capacity made.made;
    }
