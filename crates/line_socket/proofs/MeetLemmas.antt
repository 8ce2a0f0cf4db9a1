-- A lent socket behind the delimiter that one of its ends met which read on to it.
use Rattle.std.proofs.Common.{◌≡◌, ◌≢◌, ◌<◌, ◌∙◌, ◌+◌, ◌||◌, ℕ, zero, suc, Bool, true, false, List, [], ◌∷◌, ◌++◌, drop, filter, map, length, Option, Some, None, refl, sym, ap, subst, true≢false, if◌then◌else◌, arith}
use Rattle.std.specs.List.{list_any}
use Rattle.zq_base.specs.declared.ids.EndId.{EndId}
use Rattle.spec_control.specs.declared.end.EndEvent.TheVariants.{DelimiterSeen, AckCame}
use Rattle.spec_control.specs.declared.end.EndState.TheVariants.{WaitDelimiter}
use Rattle.spec_control.specs.declared.entry.Did.TheVariants.{Delimited}
use Rattle.spec_control.specs.Place.{At, is_here, looks}
use Rattle.spec_control.specs.PairPhase.{Happens}
use Rattle.spec_control.specs.Control.{Control, begun, happens, is_end, ends_of, owner_of as control_owner, place_of}
use Rattle.spec_control.specs.ControlRun.{after_all}
use Rattle.control_laws.proofs.RowLemmas.{pair_there}
use Rattle.control_laws.specs.AttachedOnce.{AreOnce}
use Rattle.control_laws.proofs.AskLemmas.{end_self, same_end}
use Rattle.spec_control.specs.Held.{Held}
use Rattle.spec_control.specs.Moments.{Moment, left_after}
use Rattle.desk.specs.Lent.{here_ends}
use Rattle.desk.specs.declared.given.Given.{Given}
use Rattle.ctl_moves.proofs.HeldLemmas.{here_same}
use Rattle.ctl_moves.proofs.TurnLemmas.{else_at, same_attached, same_here, same_owner}
use Rattle.desk.specs.Desk.{Delimits, DelimitsOrNot, by_caller}
use Rattle.socket_laws.proofs.NewLemmas.{there}
use Rattle.msg_pipe.specs.Known.{Known}
use Rattle.any_sock.specs.declared.any_sock.AnySock.{AnySock}
use Rattle.any_sock.specs.Over.{over}
use Rattle.end_table.specs.declared.table.Place.{Place}
use Rattle.end_table.specs.Places.{place_at, held_of, held_in}
use Rattle.sock_core.specs.declared.sock.SockCore.{SockCore}
use Rattle.sock_calls.specs.Calls.{owner_of}
use Rattle.sock_calls.specs.Passing.{Passes}
use Rattle.spec_run.specs.OpenSocket.{awaits_delimiter}
use Rattle.line_calls.specs.Reading.{ReadsOnAt}
use Rattle.line_calls.specs.Steps.{MeetsEnd}
use Rattle.line_calls.specs.declared.found.Reader.{Reader}
use Rattle.line_socket.specs.Standing.{IsWhole}
use Rattle.plain_desk.specs.Lent.{Lent, moments_of}
use Rattle.socket_laws.specs.Calling.{opens_none}
use Rattle.line_socket.specs.Owned.{IsLentTo, IsThereFor, Agrees, MayTakeEnds, view_of}
use Rattle.line_socket.specs.Called.{IsCalled}
use Rattle.line_socket.specs.Leads.{Leads}
use Rattle.line_socket.specs.Readers.{held_places, readers_in, readers_from}
use Rattle.line_socket.specs.ReadersOwed.{awaits_at, left, reads_told, held_told}
use Rattle.line_socket.specs.Ready.{IsReady, AreTold}
use Rattle.line_socket.proofs.HereLemmas.{IsReading, is_reading}
use Rattle.line_socket.proofs.MayLemmas.{may_behind}
use Rattle.line_socket.proofs.MomentLemmas.{one, left_now}
use Rattle.line_socket.proofs.ReadingLemmas.{stands_among}
use Rattle.line_socket.proofs.StandLemmas.{among_filter}
use Rattle.line_socket.proofs.ThroughLemmas.{was, is_now, goes_through, lent_behind}

-- ---- no end is held twice

not_end : (e x : EndId) → e ≢ x → is_end e x ≡ false
not_end e x other = by (is_end e x) refl where
  by : (b : Bool) → is_end e x ≡ b → is_end e x ≡ false
  by true same = absurd (other (same_end e x same))
  by false is = is

module _ {N I : Type 0} where
  alone : (e : EndId) (ps : List (Place N I)) → ((k : ℕ) (q : Place N I) → place_at ps k ≡ Some q → q.held ≡ true → e ≢ q.end) → list_any (is_end e) (map (λ (x : Held N). x.end) (held_in ps)) ≡ false
  alone e [] others = refl
  alone e (q ∷ ps) others = by (alone e ps (λ k. others (suc k))) q.held refl where
    by : list_any (is_end e) (map (λ (x : Held N). x.end) (held_in ps)) ≡ false → (b : Bool) → q.held ≡ b → list_any (is_end e) (map (λ (x : Held N). x.end) (if q.held then held_of q ∷ held_in ps else held_in ps)) ≡ false
    by rest true is =
        ap (λ (b : Bool). list_any (is_end e) (map (λ (x : Held N). x.end) (if b then held_of q ∷ held_in ps else held_in ps))) is
        ∙ ap (λ (b : Bool). b || list_any (is_end e) (map (λ (x : Held N). x.end) (held_in ps))) (not_end e q.end (others zero q refl is)) ∙ rest
    by rest false is = ap (λ (b : Bool). list_any (is_end e) (map (λ (x : Held N). x.end) (if b then held_of q ∷ held_in ps else held_in ps))) is ∙ rest

  held_once : (ps : List (Place N I)) → ((j k : ℕ) (p q : Place N I) → j ≢ k → place_at ps j ≡ Some p → place_at ps k ≡ Some q → p.held ≡ true → q.held ≡ true → p.end ≢ q.end) → AreOnce (map (λ (x : Held N). x.end) (held_in ps))
  held_once [] apart = tt
  held_once (p ∷ ps) apart = by (held_once ps (λ j k x y other. apart (suc j) (suc k) x y (λ z. other (suc_eq z)))) p.held refl where
    suc_eq : {a b : ℕ} → suc a ≡ suc b → a ≡ b
    suc_eq z = omega (arith, z)

    not_zero : (k : ℕ) → zero ≡ suc k → ⊥
    not_zero k z = omega (arith, z)

    by : AreOnce (map (λ (x : Held N). x.end) (held_in ps)) → (b : Bool) → p.held ≡ b → AreOnce (map (λ (x : Held N). x.end) (if p.held then held_of p ∷ held_in ps else held_in ps))
    by rest true is = subst (λ (b : Bool). AreOnce (map (λ (x : Held N). x.end) (if b then held_of p ∷ held_in ps else held_in ps))) (sym is)
        (alone p.end ps (λ k q at. apart zero (suc k) p q (not_zero k) refl at is), rest)
    by rest false is = subst (λ (b : Bool). AreOnce (map (λ (x : Held N). x.end) (if b then held_of p ∷ held_in ps else held_in ps))) (sym is) rest

once_drop : (es : List EndId) (k : ℕ) → AreOnce es → AreOnce (drop k es)
once_drop es zero once = once
once_drop [] (suc k) once = tt
once_drop (e ∷ es) (suc k) once = once_drop es k once.1

-- ---- the one end moves, and is there still

awaits_looks : (c : Control) (e : EndId) → place_of c e ≡ At WaitDelimiter → looks (place_of c e) ≡ true
awaits_looks c e at = ap looks at

module _ (c : Control) (e : EndId) (at : place_of c e ≡ At WaitDelimiter) where
  abbrev seen : Control
  seen = happens DelimiterSeen e c

  within : e.pair.0 < length c.rows.pairs
  within = pair_there c.rows e.pair.0 e.a (Happens DelimiterSeen) (awaits_looks c e at)

  no_ack : DelimiterSeen ≢ AckCame
  no_ack f = Prim.grind arith

  -- the ends of an object that are there are the same
  pub seen_here : (o : ℕ) → filter (λ x. is_here (place_of seen x)) (ends_of o seen) ≡ filter (λ x. is_here (place_of c x)) (ends_of o c)
  seen_here o =
      ap (λ (es : List EndId). here_ends seen.rows.pairs es o) (same_attached c DelimiterSeen e WaitDelimiter at within)
      ∙ here_same c.rows.pairs seen.rows.pairs c.attached o (same_here c DelimiterSeen e WaitDelimiter at within refl no_ack) (same_owner c DelimiterSeen e WaitDelimiter at within)

  -- and of others than the one the same await their delimiters
  pub seen_awaits : (es : List EndId) → list_any (is_end e) es ≡ false → filter (awaits_at seen) es ≡ filter (awaits_at c) es
  seen_awaits [] others = refl
  seen_awaits (x ∷ es) others = by (is_end e x) refl others (seen_awaits es) where
    turned : is_end e x ≡ false → is_end x e ≡ false
    turned other = not_end x e (λ (same : x ≡ e). absurd (true≢false (sym (ap (is_end e) same ∙ end_self e) ∙ other)))

    by : (b : Bool) → is_end e x ≡ b → (is_end e x || list_any (is_end e) es) ≡ false → (list_any (is_end e) es ≡ false → filter (awaits_at seen) es ≡ filter (awaits_at c) es) → filter (awaits_at seen) (x ∷ es) ≡ filter (awaits_at c) (x ∷ es)
    by true same h rest = absurd (true≢false (sym (ap (λ (b : Bool). b || list_any (is_end e) es) same) ∙ h))
    by false other h rest =
        ap (λ (b : Bool). if b then x ∷ filter (awaits_at seen) es else filter (awaits_at seen) es) (ap awaits_delimiter (else_at c DelimiterSeen e WaitDelimiter at within x (turned other)))
        ∙ ap (λ (l : List EndId). if awaits_at c x then x ∷ l else l) (rest (sym (ap (λ (b : Bool). b || list_any (is_end e) es) other) ∙ h))

-- ---- of a lent socket

module _ {W N O I S T : Type 0} (K : Known S O I N) (before now : S) (d e : Lent (Given N O I) N T) (n : ℕ) (reader : Reader) where
  -- it was said that the end met its delimiter, the others read on as before, and ends on their way may join it still
  pub record HasMet (old new : Option (SockCore AnySock W N O I)) (k : ℕ) : Type 0 where
    pub meets : MeetsEnd (Leads K) view_of reader.end (was K before now d e n old) (is_now K before now d e n new k)
    pub behind : readers_from new (reader.place + 1) ≡ readers_from old (reader.place + 1)
    pub agrees : Agrees K (is_now K before now d e n new k)
    pub ready : IsReady (is_now K before now d e n new k)
    pub may : MayTakeEnds K (was K before now d e n old) → MayTakeEnds K (is_now K before now d e n new k)

  module _ {made : Bool} {may_make : EndId → ℕ → ℕ → Type 0} (s t : SockCore AnySock W N O I) (is : IsLentTo K before d n s) (called : IsCalled K made may_make before d (Some s) now e (Some t)) (reads : IsReading K before d n s reader)
      (met : Delimits d.caller reader.end (moments_of d) (moments_of e)) where
    abbrev o : ℕ
    o = s.number.0

    abbrev c : Control
    c = after_all d.items (begun d.past.workers)

    abbrev mo : Moment N T
    mo = record { found = met.found; item = by_caller d.caller (Delimited reader.end met.answered) }

    found_so : c ≡ met.found
    found_so = ap (λ (m : Moment N T). m.found) (one d e called.grows called.order mo met.one_more).moment_is

    abbrev held : List EndId
    held = map (λ (x : Held N). x.end) (held_in s.ends.places.items)

    -- it is of the socket
    among : list_any (is_end reader.end) (ends_of o c) ≡ true
    among = among_filter (λ x. is_here (place_of c x)) (ends_of o c) reader.end
        (ap (list_any (is_end reader.end)) (sym (held_told K before d n s is)) ∙ stands_among held (drop (reader.place + 1) held) reader.place reader.end reads.stands)

    pub of_it : control_owner met.found reader.end ≡ o
    of_it =
        ap (λ (x : Control). control_owner x reader.end) (sym found_so ∙ sym is.order.control)
        ∙ (there d o is.order is.owned.is_open reader.end (ap (list_any (is_end reader.end)) (left K before d n s is).ends ∙ among)).own

    abbrev behind_it : IsLentTo K now e (n + 1) t
    behind_it = lent_behind K before now d e n s t is called mo met.one_more of_it refl (opens_none refl) tt

    abbrev f : Control
    f = after_all e.items (begun e.past.workers)

    f_is : f ≡ happens DelimiterSeen reader.end c
    f_is = left_now d e called.grows called.order mo met.one_more ∙ ap (happens DelimiterSeen reader.end) (sym found_so)

    same_held : map (λ (x : Held N). x.end) (held_in t.ends.places.items) ≡ held
    same_held =
        held_told K now e (n + 1) t behind_it
        ∙ ap (λ (i : ℕ). filter (λ x. is_here (place_of f x)) (ends_of i f)) called.owner
        ∙ ap (λ (x : Control). filter (λ y. is_here (place_of x y)) (ends_of o x)) f_is
        ∙ seen_here c reader.end reads.now o ∙ sym (held_told K before d n s is)

    once : AreOnce held
    once = held_once s.ends.places.items (λ j k p q other at there_too is_held held_too. (is.owned.stands.fits.sound.apart j k p q other at there_too is_held held_too).ends)

    fresh : list_any (is_end reader.end) (drop (reader.place + 1) held) ≡ false
    fresh = (subst AreOnce reads.stands (once_drop held reader.place once)).0

    pub reads_behind : readers_in (drop (reader.place + 1) (held_places t.ends.places.items)) ≡ readers_in (drop (reader.place + 1) (held_places s.ends.places.items))
    reads_behind =
        reads_told K now e (n + 1) t behind_it (reader.place + 1)
        ∙ ap (λ (es : List EndId). filter (awaits_at f) (drop (reader.place + 1) es)) same_held
        ∙ ap (λ (x : Control). filter (awaits_at x) (drop (reader.place + 1) held)) f_is
        ∙ seen_awaits c reader.end reads.now (drop (reader.place + 1) held) fresh
        ∙ sym (reads_told K before d n s is (reader.place + 1))

  -- an end that reads on is looked at
  looked : (s : SockCore AnySock W N O I) → IsReading K before d n s reader → (found : Bool) → (found ≡ false → looks (place_of (left_after s.number.0 (moments_of d)) reader.end) ≡ false) → found ≡ true
  looked s reads true not_looked = refl
  looked s reads false not_looked = absurd (true≢false (sym (ap looks reads.left) ∙ not_looked refl))

  pub has_met : {made : Bool} {may_make : EndId → ℕ → ℕ → Type 0} → (old new : Option (SockCore AnySock W N O I)) → IsThereFor K before d n old → AreTold old → IsReady (was K before now d e n old) → IsCalled K made may_make before d old now e new
      → e.past.given ≡ d.past.given → (IsWhole old → IsWhole new) → ((more : List (Moment N T)) → moments_of e ≡ moments_of d ++ more → Passes over old new more)
      → ReadsOnAt (readers_from old) reader → (found : Bool) → DelimitsOrNot d.caller reader.end found (moments_of d) (moments_of e)
      → (found ≡ false → looks (place_of (left_after (owner_of old) (moments_of d)) reader.end) ≡ false) → (k : ℕ) → k ≡ n + 1 → HasMet old new k
  has_met None new is told ready called given whole passes reads found met not_looked k at = absurd is
  has_met (Some s) None is told ready called given whole passes reads found met not_looked k at = absurd called.fits
  has_met (Some s) (Some t) is told ready called given whole passes reads found met not_looked k at =
      let reading = is_reading K before d n s is reader reads in
      let once = subst (λ (b : Bool). DelimitsOrNot d.caller reader.end b (moments_of d) (moments_of e)) (looked s reading found not_looked) met in
      let through = goes_through K before now d e n (Some s) (Some t) is told ready called given whole passes (mo s t is called reading once) once.one_more (of_it s t is called reading once) refl (opens_none refl) tt k at in
      record {
        meets = record { met = mo s t is called reading once; item = record { by = d.caller; answered = once.answered; item_is = refl }; passes = through.passes };
        behind = reads_behind s t is called reading once;
        agrees = through.agrees;
        ready = through.ready;
        may = λ may. may_behind K before now d e n s t is called (mo s t is called reading once) once.one_more (of_it s t is called reading once) refl (opens_none refl) tt refl may k;
      }
