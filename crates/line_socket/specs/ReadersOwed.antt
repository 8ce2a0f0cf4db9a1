-- The ends that a socket holds and that read on are those that a run says await their delimiters (own choice).
use Rattle.std.proofs.Common.{◌≡◌, ◌∙◌, ◌&&◌, ℕ, zero, suc, Bool, true, false, List, [], ◌∷◌, Option, Some, None, drop, filter, map, refl, sym, ap, subst, true≢false, if◌then◌else◌, arith, eq-eqb}
use Rattle.zq_base.specs.declared.ids.EndId.{EndId}
use Rattle.spec_control.specs.declared.end.EndState.{EndState}
use Rattle.spec_control.specs.declared.end.EndState.TheVariants.{Active, DelimiterGot, WaitDelimiter, AckSent, AskedOnce, AskedTwice, Gone}
use Rattle.spec_control.specs.Names.{name_of}
use Rattle.spec_control.specs.Place.{Place as Where, Unmade, Away, At, is_here}
use Rattle.spec_control.specs.Control.{Control, begun, is_end, place_of, ends_of}
use Rattle.spec_control.specs.ControlRun.{after_all}
use Rattle.spec_control.specs.Held.{Held}
use Rattle.spec_control.specs.Moments.{left_after}
use Rattle.desk.specs.Lent.{HasEnds}
use Rattle.control_laws.proofs.HaveLemmas.{lent_holders_have_it}
use Rattle.msg_pipe.specs.Known.{Known}
use Rattle.any_sock.specs.declared.any_sock.AnySock.{AnySock}
use Rattle.end_table.specs.declared.table.Place.{Place}
use Rattle.end_table.specs.Places.{place_at, held_of, held_in}
use Rattle.sock_core.specs.declared.sock.SockCore.{SockCore}
use Rattle.sock_core.specs.Has.{holding_in}
use Rattle.sock_core.specs.Standing.{standing_joins}
use Rattle.sock_core.proofs.FindLemmas.{same_end}
use Rattle.spec_run.specs.OpenSocket.{SockEnd, awaits_delimiter, place_in, waiting_ends}
use Rattle.line_socket.specs.View.{ends_told}
use Rattle.line_socket.specs.Standing.{kind_told}
use Rattle.socket_laws.specs.OpenEnds.{AreLeft}
use Rattle.socket_laws.specs.Open.{ends_at}
use Rattle.socket_laws.proofs.LeftLemmas.{open_ends_are_left}
use Rattle.plain_desk.specs.Lent.{Lent, moments_of}
use Rattle.desk.specs.declared.given.Given.{Given}
use Rattle.line_socket.specs.Owned.{LentParts, IsLentTo, Agrees, view_of}
use Rattle.line_socket.specs.Readers.{held_places, readers_in, readers_from}

-- ---- an end that awaits its delimiter is there

pub awaits_here : (w : Where) → awaits_delimiter w ≡ true → is_here w ≡ true
awaits_here Unmade h = absurd (true≢false (sym h))
awaits_here Away h = absurd (true≢false (sym h))
awaits_here (At Active) h = refl
awaits_here (At DelimiterGot) h = refl
awaits_here (At WaitDelimiter) h = refl
awaits_here (At AckSent) h = refl
awaits_here (At AskedOnce) h = refl
awaits_here (At AskedTwice) h = refl
awaits_here (At Gone) h = absurd (true≢false (sym h))

pub filter_both : {X : Type 0} (f g : X → Bool) → ((x : X) → f x ≡ true → g x ≡ true) → (xs : List X) → filter f (filter g xs) ≡ filter f xs
filter_both f g more [] = refl
filter_both {X = X} f g more (x ∷ xs) = by (filter_both f g more xs) (f x) (g x) refl refl where
  by : filter f (filter g xs) ≡ filter f xs → (b c : Bool) → f x ≡ b → g x ≡ c → filter f (if g x then x ∷ filter g xs else filter g xs) ≡ (if f x then x ∷ filter f xs else filter f xs)
  by rest b true ef eg = ap (λ (y : Bool). filter f (if y then x ∷ filter g xs else filter g xs)) eg ∙ ap (λ (l : List X). if f x then x ∷ l else l) rest
  by rest true false ef eg = absurd (true≢false (sym (more x ef) ∙ eg))
  by rest false false ef eg = ap (λ (y : Bool). filter f (if y then x ∷ filter g xs else filter g xs)) eg ∙ rest ∙ ap (λ (y : Bool). if y then x ∷ filter f xs else filter f xs) (sym ef)

-- ---- by the control plane

module _ (c : Control) where
  abbrev pub awaits_at : EndId → Bool
  awaits_at e = awaits_delimiter (place_of c e)

  abbrev pub told_where : EndId → SockEnd
  told_where e = record { end = e; place = place_of c e }

  waits_in : (es : List EndId) → map (λ (x : SockEnd). x.end) (filter (λ (x : SockEnd). awaits_delimiter x.place) (map told_where es)) ≡ filter awaits_at es
  waits_in [] = refl
  waits_in (e ∷ es) = by (waits_in es) (awaits_at e) refl where
    by : map (λ (x : SockEnd). x.end) (filter (λ (x : SockEnd). awaits_delimiter x.place) (map told_where es)) ≡ filter awaits_at es → (b : Bool) → awaits_at e ≡ b → map (λ (x : SockEnd). x.end) (if awaits_at e then told_where e ∷ filter (λ (x : SockEnd). awaits_delimiter x.place) (map told_where es) else filter (λ (x : SockEnd). awaits_delimiter x.place) (map told_where es))
        ≡ (if awaits_at e then e ∷ filter awaits_at es else filter awaits_at es)
    by rest true is = ap (λ (y : Bool). map (λ (x : SockEnd). x.end) (if y then told_where e ∷ filter (λ (x : SockEnd). awaits_delimiter x.place) (map told_where es) else filter (λ (x : SockEnd). awaits_delimiter x.place) (map told_where es))) is
        ∙ ap (λ (l : List EndId). e ∷ l) rest ∙ ap (λ (y : Bool). if y then e ∷ filter awaits_at es else filter awaits_at es) (sym is)
    by rest false is = ap (λ (y : Bool). map (λ (x : SockEnd). x.end) (if y then told_where e ∷ filter (λ (x : SockEnd). awaits_delimiter x.place) (map told_where es) else filter (λ (x : SockEnd). awaits_delimiter x.place) (map told_where es))) is
        ∙ rest ∙ ap (λ (y : Bool). if y then e ∷ filter awaits_at es else filter awaits_at es) (sym is)

  -- an end that is told where it is, is there
  pub is_there : (es : List EndId) (e : EndId) (s : EndState) → place_in (map told_where es) e ≡ At s → place_of c e ≡ At s
  is_there [] e s h = absurd (unmade h) where
    unmade : Unmade ≡ At s → ⊥
    unmade x = Prim.grind arith
  is_there (d ∷ es) e s h = by (λ k. is_there es e s k) (is_end e d) refl where
    by : (place_in (map told_where es) e ≡ At s → place_of c e ≡ At s) → (b : Bool) → is_end e d ≡ b → place_of c e ≡ At s
    by rest true is = ap (place_of c) (same_end e d is) ∙ sym (ap (λ (y : Bool). if y then place_of c d else place_in (map told_where es) e) is) ∙ h
    by rest false is = rest (sym (ap (λ (y : Bool). if y then place_of c d else place_in (map told_where es) e) is) ∙ h)

  module _ {N I : Type 0} where
    -- behind so many that are held
    readers_so : (ps : List (Place N I)) → ((k : ℕ) (p : Place N I) → place_at ps k ≡ Some p → p.held ≡ true → place_of c p.end ≡ At p.state) → (n : ℕ) →
        readers_in (drop n (held_places ps)) ≡ filter awaits_at (drop n (map (λ (x : Held N). x.end) (held_in ps)))
    readers_so [] told zero = refl
    readers_so [] told (suc n) = refl
    readers_so (p ∷ ps) told n = by (readers_so ps (λ k. told (suc k))) p.held refl n where
      by : ((m : ℕ) → readers_in (drop m (held_places ps)) ≡ filter awaits_at (drop m (map (λ (x : Held N). x.end) (held_in ps)))) → (b : Bool) → p.held ≡ b → (m : ℕ) →
          readers_in (drop m (if p.held then p ∷ held_places ps else held_places ps)) ≡ filter awaits_at (drop m (map (λ (x : Held N). x.end) (if p.held then held_of p ∷ held_in ps else held_in ps)))
      by behind true is m =
          ap (λ (y : Bool). readers_in (drop m (if y then p ∷ held_places ps else held_places ps))) is ∙ first m
          ∙ ap (λ (y : Bool). filter awaits_at (drop m (map (λ (x : Held N). x.end) (if y then held_of p ∷ held_in ps else held_in ps)))) (sym is)
        where
          first : (k : ℕ) → readers_in (drop k (p ∷ held_places ps)) ≡ filter awaits_at (drop k (p.end ∷ map (λ (x : Held N). x.end) (held_in ps)))
          first zero =
              ap (λ (y : Bool). if y && awaits_delimiter (At p.state) then p.end ∷ readers_in (held_places ps) else readers_in (held_places ps)) is
              ∙ ap (λ (w : Where). if awaits_delimiter w then p.end ∷ readers_in (held_places ps) else readers_in (held_places ps)) (sym (told zero p refl is))
              ∙ ap (λ (l : List EndId). if awaits_at p.end then p.end ∷ l else l) (behind zero)
          first (suc k) = behind k
      by behind false is m =
          ap (λ (y : Bool). readers_in (drop m (if y then p ∷ held_places ps else held_places ps))) is ∙ behind m
          ∙ ap (λ (y : Bool). filter awaits_at (drop m (map (λ (x : Held N). x.end) (if y then held_of p ∷ held_in ps else held_in ps)))) (sym is)

-- ---- of a socket that is lent

module _ {W N O I S T : Type 0} (K : Known S O I N) where
  module _ (pipes : S) (d : Lent (Given N O I) N T) (since : ℕ) (s : SockCore AnySock W N O I) (is : IsLentTo K pipes d since s) where
    abbrev o : ℕ
    o = s.number.0

    abbrev now : Control
    now = after_all d.items (begun d.past.workers)

    pub left : AreLeft s.number.0 (left_after s.number.0 (moments_of d)) (after_all d.items (begun d.past.workers))
    left = open_ends_are_left N T d.past.workers d.items d.caller o (record { run = is.order.order.run; callers = is.order.order.by; is_open = is.owned.is_open })

    -- the ends that joined it, each where it is now
    told_now : ends_told (standing_joins s.joins.items) s.ends.places.items ≡ ends_at o now
    told_now = is.owned.ends_are ∙ left.told

    pub here : HasEnds (name_of d.items) now.rows.pairs now.attached now.reasons (holding_in (kind_told s.kind) s) o
    here = lent_holders_have_it N T d.past.workers d.items is.order.order.run is.order.order.named is.order.order.by d.caller (holding_in (kind_told s.kind) s) is.owned.has o is.owned.held

    pub own_ends : (holding_in (kind_told s.kind) s).ends o ≡ held_in s.ends.places.items
    own_ends = ap (λ (b : Bool). if b then held_in s.ends.places.items else []) (eq-eqb o o refl)

    states : (k : ℕ) (p : Place N I) → place_at s.ends.places.items k ≡ Some p → p.held ≡ true → place_of now p.end ≡ At p.state
    states k p at held = is_there now (ends_of o now) p.end p.state (ap (λ (l : List SockEnd). place_in l p.end) (sym told_now) ∙ is.owned.stands.told k p at held)

    -- those that read on are those of the ends that are held which await their delimiters
    pub reads_told : (n : ℕ) → readers_in (drop n (held_places s.ends.places.items)) ≡ filter (awaits_at now) (drop n (map (λ (x : Held N). x.end) (held_in s.ends.places.items)))
    reads_told n = readers_so now s.ends.places.items states n

    -- and these are the ends that the socket has, in the order of attachment, but those that are gone
    pub held_told : map (λ (x : Held N). x.end) (held_in s.ends.places.items) ≡ filter (λ e. is_here (place_of now e)) (ends_of o now)
    held_told = ap (map (λ (x : Held N). x.end)) (sym own_ends) ∙ here.ends

    pub readers_told : readers_in (held_places s.ends.places.items) ≡ map (λ (x : SockEnd). x.end) (filter (λ (x : SockEnd). awaits_delimiter x.place) (ends_told (standing_joins s.joins.items) s.ends.places.items))
    readers_told =
        reads_told 0
        ∙ ap (filter (awaits_at now)) held_told
        ∙ filter_both (awaits_at now) (λ e. is_here (place_of now e)) (λ e. awaits_here (place_of now e)) (ends_of o now)
        ∙ sym (waits_in now (ends_of o now))
        ∙ ap (λ (l : List SockEnd). map (λ (x : SockEnd). x.end) (filter (λ (x : SockEnd). awaits_delimiter x.place) l)) (sym told_now)

  readers_there : (l : LentParts W N O I S T) (s : Option (SockCore AnySock W N O I)) → l.socket ≡ s → Agrees K l → readers_from l.socket 0 ≡ waiting_ends (view_of l)
  readers_there l None e agrees = absurd (subst (λ x. Agrees K (record l { socket = x })) e agrees)
  readers_there l (Some s) e agrees =
      ap (λ x. readers_from x 0) e ∙ readers_told l.pipes l.desk l.since s (subst (λ x. Agrees K (record l { socket = x })) e agrees)
      ∙ sym (ap (λ x. waiting_ends (view_of (record l { socket = x }))) e)

  -- the law
  pub readers_are : (l : LentParts W N O I S T) → Agrees K l → readers_from l.socket 0 ≡ waiting_ends (view_of l)
  readers_are l agrees = readers_there l l.socket refl agrees
