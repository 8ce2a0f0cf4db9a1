-- A socket that its caller has open stays so behind calls on another.
use Rattle.std.specs.Prelude.{◌≡◌, ◌==◌, ◌&&◌, ℕ, zero, suc, Bool, true, false, List, [], ◌∷◌, Some, None, All, if◌then◌else◌, refl}
use Rattle.std.proofs.Common.{arith, sym, ap, ◌∙◌, subst}
use Rattle.std.proofs.lemmas.Bool.{eq-eqb, eqb-true}
use Rattle.std.proofs.lemmas.List.Elements.{All-head, All-tail}
use Rattle.spec_control.specs.Control.{Control, ends_of, is_end, met_in, place_of}
use Rattle.spec_control.specs.Names.{name_of}
use Rattle.control_laws.proofs.ListLemmas.{right}
use Rattle.control_laws.proofs.AskLemmas.{end_self}
use Rattle.spec_control.specs.Held.{Held}
use Rattle.spec_control.specs.Moments.{Moment}
use Rattle.msg_pipe.specs.Known.{Known}
use Rattle.any_sock.specs.declared.any_sock.AnySock.{AnySock}
use Rattle.any_sock.specs.Over.{peer_places}
use Rattle.desk.specs.declared.given.Given.{Given}
use Rattle.desk.specs.Holding.{Holding, has_end}
use Rattle.desk.specs.Lent.{has_writer, HasEnds}
use Rattle.ctl_plane.specs.Past.{control_of}
use Rattle.desk.specs.Desk.{HasWhatTheySay}
use Rattle.end_table.specs.declared.table.Place.{Place}
use Rattle.end_table.specs.Places.{held_in, held_of, is_of, place_at, writes_of}
use Rattle.control_laws.proofs.HaveLemmas.{lent_holders_have_it}
use Rattle.socket_laws.specs.Open.{ends_at}
use Rattle.sock_core.specs.declared.sock.SockCore.{SockCore}
use Rattle.sock_core.specs.Has.{holding_in}
use Rattle.sock_core.proofs.FindLemmas.{has_here, one_passes}
use Rattle.sock_calls.specs.Calls.{LeavesOthers}
use Rattle.sock_calls.specs.Others.{IsApart}
use Rattle.sock_calls.proofs.CallsLemmas.{others_fit}
use Rattle.line_socket.specs.Standing.{kind_told, IsStanding}
use Rattle.line_socket.specs.Owned.{IsOut, IsOwned}
use Rattle.plain_desk.specs.Lent.{IsOneOrder, Lent, moments_of}
use Rattle.socket_laws.specs.Behind.{IsOfIts}
use Rattle.socket_laws.proofs.NewLemmas.{held_ends_are_its}
use Rattle.core_laws.specs.Apart.{IsHeldBy}
use Rattle.core_laws.specs.Calls.{SaySame, for_caller}
use Rattle.core_laws.specs.Laws.{OthersStayOwned, OwnedAreApart}
use Rattle.core_laws.proofs.ApartLemmas.{is_apart}
use Rattle.core_laws.proofs.SilentLemmas.{one_order_of, others_say_the_same}

module _ {N S : Type 0} where
  -- moments that say the same of all that a holder has
  pub has_still : (by : ℕ) (was now : List (Moment N S)) (h : Holding N) → ((i : ℕ) → h.holds i ≡ true → SaySame i was now) → HasWhatTheySay by was h → HasWhatTheySay by now h
  has_still by was now h same has = record {
    objects = λ i holds. (same i holds).has ∙ has.objects i holds;
    no_root = has.no_root;
    ends = λ i holds. has.ends i holds ∙ sym (same i holds).ends;
    writes = λ i e holds here. has.writes i e holds here ∙ ap (λ (c : Control). has_writer (place_of c e)) (sym (same i holds).left);
    delimiters = λ i e holds here met. has.delimiters i e holds here (ap (λ (c : Control). met_in (place_of c e) (c.reasons e)) (sym (same i holds).left) ∙ met);
    states = λ i e holds here. ap (λ (c : Control). place_of c e) (same i holds).left ∙ has.states i e holds here;
    kinds = λ i holds. has.kinds i holds ∙ sym (same i holds).kind;
  }

module _ {W N O I P T : Type 0} (K : Known P O I N) where
  -- moments that say the same of a socket
  pub owned_still : (j : ℕ) (ms ns : List (Moment N T)) (pipes : P) (t : SockCore AnySock W N O I) → SaySame t.number.0 ms ns → IsOwned K j ms pipes t → IsOwned K j ns pipes t
  owned_still j ms ns pipes t same owned = record {
    stands = owned.stands;
    has = has_still j ms ns (holding_in (kind_told t.kind) t) (λ i holds. subst (λ (n : ℕ). SaySame n ms ns) (sym (eqb-true i t.number.0 (right t.is_open (i == t.number.0) holds))) same) owned.has;
    held = owned.held;
    is_open = ap (λ k. k.open_socket) same.knows ∙ owned.is_open;
    ends_are = owned.ends_are ∙ ap (ends_at t.number.0) (sym same.left);
    sealed_out = λ e sealed. subst (λ (c : Control). IsOut (ends_of t.number.0 c) e (place_of c e)) (sym same.left) (owned.sealed_out e sealed);
  }

  -- pipes that were left by calls on another
  pub owned_left : (j : ℕ) (ms : List (Moment N T)) (was now t : SockCore AnySock W N O I) (before behind : P) → LeavesOthers K (Some was) (Some now) before behind → IsApart K (Some was) (Some now) (Some t) → IsOwned K j ms before t → IsOwned K j ms behind t
  owned_left j ms was now t before behind leaves apart owned =
      let stands : IsStanding K before t = owned.stands in
      record {
        stands = record {
          fits = others_fit K peer_places (Some was) (Some now) (Some t) before behind leaves apart stands.fits;
          is_open = stands.is_open;
          told = stands.told;
          unsealed = stands.unsealed;
        };
        has = owned.has;
        held = owned.held;
        is_open = owned.is_open;
        ends_are = owned.ends_are;
        sealed_out = owned.sealed_out;
      }

pub others_stay_owned : (W T : Type 0) {P N O I : Type 0} (K : Known P O I N) → OthersStayOwned W T K
others_stay_owned W T {P} {N} {O} {I} K old new o calls was now t before behind leaves apart j other owned =
    owned_left K j (moments_of (for_caller j new)) was now t before behind leaves apart
    (owned_still K j (moments_of (for_caller j old)) (moments_of (for_caller j new)) before t (others_say_the_same (Given N O I) N T old new o calls j t.number.0 other owned.is_open) owned)

-- ---- the ends that it holds
none_some : {X : Type 0} {x : X} → None ≡ Some x → ⊥
none_some e = Prim.grind arith

some_is : {X : Type 0} {x y : X} → Some x ≡ Some y → x ≡ y
some_is e = Prim.grind arith

module _ {N I : Type 0} where
  -- what is so of each end that is held is so of the one at a place
  at_held : (Q : Held N → Type 0) (ps : List (Place N I)) → All Q (held_in ps) → (k : ℕ) (p : Place N I) → place_at ps k ≡ Some p → p.held ≡ true → Q (held_of p)
  at_held Q [] all k p at held = absurd (none_some at)
  at_held Q (x ∷ ps) all zero p at held = subst (λ (y : Place N I). Q (held_of y)) same (All-head Q (held_of x) (held_in ps) (subst (λ (b : Bool). All Q (if b then held_of x ∷ held_in ps else held_in ps)) (ap (λ (y : Place N I). y.held) same ∙ held) all))
    where
      same : x ≡ p
      same = some_is at
  at_held Q (x ∷ ps) all (suc k) p at held = at_held Q ps (rest x.held all) k p at held
    where
      rest : (b : Bool) → All Q (if b then held_of x ∷ held_in ps else held_in ps) → All Q (held_in ps)
      rest true all = All-tail Q (held_of x) (held_in ps) all
      rest false all = all

module _ (W T : Type 0) {P N O I : Type 0} (K : Known P O I N) (d : Lent (Given N O I) N T) (order : IsOneOrder d) (j : ℕ) (pipes : P) (t : SockCore AnySock W N O I) (owned : IsOwned K j (moments_of (for_caller j d)) pipes t) where
  abbrev pub h : Holding N
  h = holding_in (kind_told t.kind) t

  pub mine : h.ends t.number.0 ≡ held_in t.ends.places.items
  mine = ap (λ (b : Bool). if b then held_in t.ends.places.items else []) (eq-eqb t.number.0 t.number.0 refl)

  pub all_ends : HasEnds (name_of d.items) (control_of d.past).rows.pairs (control_of d.past).attached (control_of d.past).reasons h t.number.0
  all_ends =
      let run = order.order in
      subst (λ (c : Control). HasEnds (name_of d.items) c.rows.pairs c.attached c.reasons h t.number.0) (sym order.control)
      (lent_holders_have_it N T d.past.workers d.items run.run run.named run.by j h owned.has t.number.0 owned.held)

  its : All (λ x. IsOfIts t.number.0 (for_caller j d) x.end x.written x.read) (held_in t.ends.places.items)
  its = subst (λ (hs : List (Held N)). All (λ x. IsOfIts t.number.0 (for_caller j d) x.end x.written x.read) hs) mine (held_ends_are_its (Given N O I) N T (for_caller j d) t.number.0 (one_order_of j d order) owned.is_open h owned.has owned.held)

  pub held_by : (k : ℕ) (p : Place N I) → place_at t.ends.places.items k ≡ Some p → p.held ≡ true → IsHeldBy t.number.0 (for_caller j d) p
  held_by k p at held = record {
    its = at_held (λ x. IsOfIts t.number.0 (for_caller j d) x.end x.written x.read) t.ends.places.items its k p at held;
    writes = λ writes. sym (all_ends.writes p.end (ap (has_end p.end) mine ∙ has_here p.end t.ends.places.items ∙ one_passes (is_of p.end) t.ends.places.items k p at (is_held held)))
        ∙ one_passes (writes_of p.end) t.ends.places.items k p at (ap (λ (b : Bool). b && is_of p.end p) writes ∙ is_held held);
  }
    where
      is_held : p.held ≡ true → is_of p.end p ≡ true
      is_held held = ap (λ (b : Bool). b && is_end p.end p.end) held ∙ end_self p.end

pub owned_are_apart : (W T : Type 0) {P N O I : Type 0} (K : Known P O I N) → OwnedAreApart W T K
owned_are_apart W T K d order distinct i o known was now t places read_out j pipes other owned k p at held =
    is_apart K d order distinct i o j t.number.0 other known owned.is_open p (held_by W T K d order j pipes t owned k p at held) was.ends now.ends places read_out
