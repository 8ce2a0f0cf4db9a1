-- The ends of a lent socket that read on, and a look at one of them.
use Rattle.std.specs.Prelude.{filter, slice_index_or}
use Rattle.std.specs.List.{list_any}
use Rattle.std.proofs.Common.{◌≡◌, ◌<◌, ◌≤◌, ◌∙◌, ◌+◌, ◌||◌, inl, inr, ℕ, zero, suc, Bool, true, false, List, [], ◌∷◌, drop, length, Option, Some, None, refl, sym, ap, subst, true≢false, if◌then◌else◌, arith}
use Rattle.zq_base.specs.declared.ids.EndId.{EndId}
use Rattle.spec_pattern.specs.PipeStep.{read_through}
use Rattle.spec_control.specs.Control.{is_end}
use Rattle.control_laws.proofs.AskLemmas.{end_self}
use Rattle.desk.specs.Holding.{has_end}
use Rattle.desk.specs.declared.given.Given.{Given}
use Rattle.desk.specs.declared.halves.Halves.{Halves}
use Rattle.msg_pipe.specs.Known.{Known, IsThere}
use Rattle.msg_pipe.specs.Told.{front_step}
use Rattle.msg_pipe.specs.declared.pipes.Front.{Front}
use Rattle.msg_pipe.specs.declared.pipes.Front.TheVariants.{Message, Empty, Delimiter}
use Rattle.end_table.specs.Rows.{Table, table}
use Rattle.end_table.specs.Runs.{DoesOne}
use Rattle.any_sock.specs.declared.any_sock.AnySock.{AnySock}
use Rattle.end_table.specs.declared.table.Place.{Place}
use Rattle.end_table.specs.Places.{place_at, held_of, held_in}
use Rattle.end_table.specs.Sound.{Fits, IsElseOf}
use Rattle.sock_core.specs.declared.sock.SockCore.{SockCore}
use Rattle.sock_calls.specs.Calls.{MayJoin}
use Rattle.line_socket.specs.Looking.{AreButMet, LooksSo}
use Rattle.line_socket.proofs.LookLemmas.{held_so, place_met}
use Rattle.plain_desk.specs.Lent.{Lent, coming_to}
use Rattle.line_socket.specs.Owned.{MayTakeEnds, has_met_in}
use Rattle.line_socket.specs.Readers.{reads_on, held_places, readers_in, readers_from}
use Rattle.line_socket.proofs.MailLemmas.{box_on, looks_on}

more_than : {X : Type 0} (xs : List X) (x : X) → xs ≡ x ∷ xs → ⊥
more_than xs x e = let n = ap length e in omega (arith, n)

no_cons : {X : Type 0} (xs : List X) (x : X) → [] ≡ x ∷ xs → ⊥
no_cons xs x e = let n = ap length e in omega (arith, n)

-- where a choice of these ends goes on at one of them behind so many, that one stands there and is chosen
module _ (chosen : EndId → Bool) where
  pub goes_on : (es : List EndId) (k : ℕ) (e : EndId) → filter chosen (drop k es) ≡ e ∷ filter chosen (drop (k + 1) es) → (drop k es ≡ e ∷ drop (k + 1) es) × (chosen e ≡ true)
  goes_on [] zero e h = absurd (no_cons _ e h)
  goes_on [] (suc k) e h = absurd (no_cons _ e h)
  goes_on (x ∷ xs) zero e h = by (chosen x) refl where
    head_eq : {xs ys : List EndId} {d : EndId} → d ∷ xs ≡ e ∷ ys → d ≡ e
    head_eq g = Prim.grind arith

    by : (b : Bool) → chosen x ≡ b → (x ∷ xs ≡ e ∷ xs) × (chosen e ≡ true)
    by true is =
        let same = head_eq (sym (ap (λ (b : Bool). if b then x ∷ filter chosen xs else filter chosen xs) is) ∙ h) in
        (ap (λ (y : EndId). y ∷ xs) same, ap chosen (sym same) ∙ is)
    by false is = absurd (more_than (filter chosen xs) e (sym (ap (λ (b : Bool). if b then x ∷ filter chosen xs else filter chosen xs) is) ∙ h))
  goes_on (x ∷ xs) (suc k) e h =
      let q : suc k + 1 ≡ suc (k + 1) = omega arith in
      let on = goes_on xs k e (h ∙ ap (λ (m : ℕ). e ∷ filter chosen (drop m (x ∷ xs))) q) in
      (on.0 ∙ ap (λ (m : ℕ). e ∷ drop m (x ∷ xs)) (sym q), on.1)

-- what stands behind so many is one of all
pub stands_among : (es rest : List EndId) (k : ℕ) (e : EndId) → drop k es ≡ e ∷ rest → list_any (is_end e) es ≡ true
stands_among [] rest zero e h = absurd (no_cons _ e h)
stands_among [] rest (suc k) e h = absurd (no_cons _ e h)
stands_among (x ∷ xs) rest zero e h = ap (λ (l : List EndId). list_any (is_end e) l) h ∙ ap (λ (b : Bool). b || list_any (is_end e) rest) (end_self e)
stands_among (x ∷ xs) rest (suc k) e h = later (is_end e x) (list_any (is_end e) xs) (stands_among xs rest k e h) where
  later : (b c : Bool) → c ≡ true → b || c ≡ true
  later true c is = refl
  later false c is = is

module _ {N I : Type 0} where
  readers_met : (ps qs : List (Place N I)) → AreButMet ps qs → readers_in qs ≡ readers_in ps
  readers_met [] [] are = refl
  readers_met [] (q ∷ qs) are = absurd are
  readers_met (p ∷ ps) [] are = absurd are
  readers_met (p ∷ ps) (q ∷ qs) are =
      ap (λ (y : Place N I). if reads_on y then y.end ∷ readers_in qs else readers_in qs) are.0.same
      ∙ ap (λ (l : List EndId). if reads_on p then p.end ∷ l else l) (readers_met ps qs are.1)

  pub reading_met : (ps qs : List (Place N I)) → AreButMet ps qs → (n : ℕ) → readers_in (drop n qs) ≡ readers_in (drop n ps)
  reading_met ps qs are zero = readers_met ps qs are
  reading_met [] [] are (suc n) = refl
  reading_met [] (q ∷ qs) are (suc n) = absurd are
  reading_met (p ∷ ps) [] are (suc n) = absurd are
  reading_met (p ∷ ps) (q ∷ qs) are (suc n) = reading_met ps qs are.1 n

  -- those that are held are the same but for what they met
  pub held_but_met : (ps qs : List (Place N I)) → AreButMet ps qs → AreButMet (held_places ps) (held_places qs)
  held_but_met [] [] are = tt
  held_but_met [] (q ∷ qs) are = absurd are
  held_but_met (p ∷ ps) [] are = absurd are
  held_but_met (p ∷ ps) (q ∷ qs) are = by (held_but_met ps qs are.1) p.held refl where
    by : AreButMet (held_places ps) (held_places qs) → (b : Bool) → p.held ≡ b → AreButMet (if p.held then p ∷ held_places ps else held_places ps) (if q.held then q ∷ held_places qs else held_places qs)
    by rest true is =
        subst (λ (b : Bool). AreButMet (if b then p ∷ held_places ps else held_places ps) (if q.held then q ∷ held_places qs else held_places qs)) (sym is)
        (subst (λ (b : Bool). AreButMet (p ∷ held_places ps) (if b then q ∷ held_places qs else held_places qs)) (sym (held_so p q are.0 ∙ is)) (are.0, rest))
    by rest false is =
        subst (λ (b : Bool). AreButMet (if b then p ∷ held_places ps else held_places ps) (if q.held then q ∷ held_places qs else held_places qs)) (sym is)
        (subst (λ (b : Bool). AreButMet (held_places ps) (if b then q ∷ held_places qs else held_places qs)) (sym (held_so p q are.0 ∙ is)) rest)

  -- an end that stands at a place and is held is among those held
  pub has_held : (ps : List (Place N I)) (k : ℕ) (p : Place N I) → place_at ps k ≡ Some p → p.held ≡ true → has_end p.end (held_in ps) ≡ true
  has_held [] k p at h = absurd (none_some at) where
    none_some : {x : Place N I} → None ≡ Some x → ⊥
    none_some e = Prim.grind arith
  has_held (x ∷ xs) zero p at h =
      let e : x ≡ p = some_eq at in
      ap (λ (b : Bool). has_end p.end (if b then held_of x ∷ held_in xs else held_in xs)) (ap (λ (y : Place N I). y.held) e ∙ h)
      ∙ ap (λ (y : Place N I). has_end p.end (held_of y ∷ held_in xs)) e ∙ or_true (is_end p.end p.end) (has_end p.end (held_in xs)) (end_self p.end)
    where
      some_eq : {x y : Place N I} → Some x ≡ Some y → x ≡ y
      some_eq e = Prim.grind arith

      or_true : (b c : Bool) → b ≡ true → b || c ≡ true
      or_true true c h = refl
      or_true false c h = absurd (true≢false (sym h))
  has_held (x ∷ xs) (suc k) p at h = by (has_held xs k p at h) x.held refl where
    by : has_end p.end (held_in xs) ≡ true → (b : Bool) → x.held ≡ b → has_end p.end (if x.held then held_of x ∷ held_in xs else held_in xs) ≡ true
    by rest true is = ap (λ (b : Bool). has_end p.end (if b then held_of x ∷ held_in xs else held_in xs)) is ∙ or_second (is_end p.end x.end) (has_end p.end (held_in xs)) rest where
      or_second : (b c : Bool) → c ≡ true → b || c ≡ true
      or_second true c h = refl
      or_second false c h = h
    by rest false is = ap (λ (b : Bool). has_end p.end (if b then held_of x ∷ held_in xs else held_in xs)) is ∙ rest

module _ {W N O I S : Type 0} (K : Known S O I N) (e : EndId) (found : Front) (before now : S) where
  pub readings_stay : (old new : Option (SockCore AnySock W N O I)) → LooksSo K e found before old now new → (k : ℕ) → readers_from new k ≡ readers_from old k
  readings_stay None new h k = absurd h
  readings_stay (Some s) None h k = absurd h
  readings_stay (Some s) (Some t) h k = reading_met (held_places s.ends.places.items) (held_places t.ends.places.items) (held_but_met s.ends.places.items t.ends.places.items h.places) k

  pub met_so : (old new : Option (SockCore AnySock W N O I)) → LooksSo K e found before old now new → found ≡ Delimiter → has_met_in new e ≡ true
  met_so None new h is = absurd h
  met_so (Some s) None h is = absurd h
  met_so (Some s) (Some t) h is = h.met is

-- ---- halves on their way may join still

module _ {N O I S : Type 0} (K : Known S O I N) where
  step_keeps : (q : EndId) (f : Front) (a b : Table S O I) → DoesOne K a (front_step q f) b → ((m : N) → IsThere K a.pipes m → IsThere K b.pipes m) × ((h : O) → IsThere K a.pipes (K.out_name h) → K.writing b.pipes h ≡ K.writing a.pipes h)
  step_keeps q Message a b (inl out) = absurd out.does
  step_keeps q Empty a b (inl out) = absurd out.does
  step_keeps q Delimiter a b (inl out) = absurd out.does
  step_keeps q f a b (inr in_) = (in_.keeps.there, in_.keeps.outs)

module _ {W N O I S : Type 0} (K : Known S O I N) (e : EndId) (found : Front) (before now : S) where
  fits_still : (s t : SockCore AnySock W N O I) → LooksSo K e found before (Some s) now (Some t) → (h : Halves O I) → Fits K before s.ends.places.items h → Fits K now t.ends.places.items h
  fits_still s t looks h fits =
      let x = looks.does in
      let k = step_keeps K (read_through e) found (table before s.ends.rows.items) x.0 x.1 in
      let same : now ≡ x.0.pipes = ap (λ (y : Table S O I). y.pipes) x.2 in
      record {
        out_there = subst (λ (y : S). IsThere K y (K.out_name h.out)) (sym same) (k.0 (K.out_name h.out) fits.out_there);
        in_there = subst (λ (y : S). IsThere K y (K.in_name h.input)) (sym same) (k.0 (K.in_name h.input) fits.in_there);
        unsealed = ap (λ (y : S). (K.writing y h.out).sealed) same ∙ ap (λ v. v.sealed) (k.1 h.out fits.out_there) ∙ fits.unsealed;
        crossed = fits.crossed;
        others = λ j y at held.
            let o = place_met s.ends.places.items t.ends.places.items looks.places j y at in
            subst (λ (z : Place N I). IsElseOf K z h) (sym o.2.same) (else_of o.0 y.met (fits.others j o.0 o.1 (sym (held_so o.0 y o.2) ∙ held)));
      }
    where
      else_of : (p : Place N I) (b : Bool) → IsElseOf K p h → IsElseOf K (record p { met = b }) h
      else_of p b is = record { outs = is.outs; ins = is.ins; reads = is.reads; writes = is.writes }

  joins_still : (old new : Option (SockCore AnySock W N O I)) → LooksSo K e found before old now new → (h : Halves O I) → MayJoin K before old h → MayJoin K now new h
  joins_still None new looks h may = absurd looks
  joins_still (Some s) None looks h may = absurd looks
  joins_still (Some s) (Some t) looks h may = fits_still s t looks h may

module _ {W N O I S T : Type 0} (K : Known S O I N) (e : EndId) (found : Front) (before now : S) where
  pub may_still : (d : Lent (Given N O I) N T) (n : ℕ) (old new : Option (SockCore AnySock W N O I)) → LooksSo K e found before old now new
      → MayTakeEnds K (record { pipes = before; desk = d; socket = old; since = n }) → MayTakeEnds K (record { pipes = now; desk = d; socket = new; since = n })
  may_still d n old new looks may = record {
    distinct = may.distinct;
    binds = λ x h coming out input. joins_still K e found before now old new looks h (may.binds x h (subst (λ (b : ℕ). coming_to d b x ≡ true) (box_on K d n before now old new (looks_on K e found before now old new looks)) coming) out input);
  }

module _ {N I : Type 0} where
  -- a walk over the places finds none from here on
  pub none_from : (ps : List (Place N I)) (k : ℕ) → length ps ≤ k → readers_in (drop k ps) ≡ []
  none_from [] zero le = refl
  none_from [] (suc k) le = refl
  none_from (x ∷ xs) zero le = absurd (omega (arith, le))
  none_from (x ∷ xs) (suc k) le = none_from xs k (omega (arith, le))

  -- what the walk does at a place
  pub at_place : (ps : List (Place N I)) (k : ℕ) (p : Place N I) → k < length ps → p ≡ slice_index_or ps k p → readers_in (drop k ps) ≡ (if reads_on p then p.end ∷ readers_in (drop (k + 1) ps) else readers_in (drop (k + 1) ps))
  at_place [] k p lt e = absurd (omega (arith, lt))
  at_place (x ∷ xs) zero p lt e = ap (λ (y : Place N I). if reads_on y then y.end ∷ readers_in xs else readers_in xs) (sym e)
  at_place (x ∷ xs) (suc k) p lt e =
      let q : suc (k + 1) ≡ suc k + 1 = omega arith in
      at_place xs k p (omega (arith, lt)) e ∙ ap (λ (m : ℕ). if reads_on p then p.end ∷ readers_in (drop m (x ∷ xs)) else readers_in (drop m (x ∷ xs))) q
