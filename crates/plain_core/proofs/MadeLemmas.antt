-- A socket that was made is its caller's, as what was done left it.
use Rattle.std.specs.Prelude.{◌≡◌, ◌+◌, ◌==◌, ◌&&◌, ℕ, Bool, true, false, List, [], Option, Some, None, if◌then◌else◌, All, filter, map, refl}
use Rattle.std.specs.List.{list_any}
use Rattle.std.proofs.Common.{arith, sym, ap, ◌∙◌, subst}
use Rattle.std.proofs.lemmas.Bool.{eq-eqb, ne_eqb, eqb-true}
use Rattle.std.proofs.lemmas.List.Elements.{All-nil}
use Rattle.zq_base.specs.declared.ids.EndId.{EndId}
use Rattle.zq_base.specs.declared.ids.ObjId.{ObjId}
use Rattle.zq_base.specs.declared.kind.Kind.{Kind}
use Rattle.zq_base.specs.declared.kind.Kind.TheVariants.{Push, Pull, Pair, Dealer, Req, Rep, Router, Pub, XPub, Sub, XSub}
use Rattle.zq_base.specs.declared.options.Options.{Options}
use Rattle.msg_pipe.specs.Known.{Known}
use Rattle.spec_pattern.specs.Peers.{pattern_kind}
use Rattle.spec_pattern.specs.NewSocket.{new_pattern}
use Rattle.spec_control.specs.declared.entry.Did.TheVariants.{Asked as DidAsk}
use Rattle.spec_control.specs.declared.entry.Item.TheVariants.{Event}
use Rattle.spec_control.specs.declared.request.Req.TheVariants.{Socket as MakeSocket}
use Rattle.spec_control.specs.declared.request.Reply.{Reply}
use Rattle.spec_control.specs.declared.request.Reply.TheVariants.{Object, Refused}
use Rattle.spec_control.specs.Names.{name_of}
use Rattle.spec_control.specs.Place.{is_away, is_here}
use Rattle.spec_control.specs.Rows.{obj}
use Rattle.spec_control.specs.Control.{Control, begun, ends_of, id, is_end, owner_of, place_of}
use Rattle.spec_control.specs.ControlRun.{after_all, IsControlRun}
use Rattle.spec_control.specs.Has.{has_after, AreBy}
use Rattle.spec_control.specs.Held.{Held, items_by}
use Rattle.spec_control.specs.Moments.{Moment, left_after, left_by}
use Rattle.control_laws.proofs.SoundLemmas.{socket_there}
use Rattle.control_laws.proofs.ListLemmas.{never, right}
use Rattle.any_sock.specs.declared.any_sock.AnySock.{AnySock}
use Rattle.desk.specs.declared.given.Given.{Given}
use Rattle.desk.specs.Holding.{Holding, has_end}
use Rattle.desk.specs.Lent.{HasAll, HasBothNames}
use Rattle.ctl_plane.specs.Past.{control_of}
use Rattle.desk.specs.Desk.{HasWhatTheySay, slot_after}
use Rattle.desk.specs.Kinds.{kind_after}
use Rattle.end_table.specs.declared.table.Place.{Place}
use Rattle.end_table.specs.Places.{held_in}
use Rattle.control_laws.proofs.LawLemmas.{no_and}
use Rattle.control_laws.proofs.SayLemmas.{holders_have_what_is_said}
use Rattle.sock_core.specs.declared.sock.SockCore.{SockCore}
use Rattle.sock_core.specs.Has.{holding_in}
use Rattle.sock_core.specs.Kinds.{no_ends}
use Rattle.line_socket.specs.Standing.{kind_told}
use Rattle.spec_run.specs.OpenSocket.{SockEnd, new_open}
use Rattle.socket_laws.specs.Bounds.{drawn_of}
use Rattle.socket_laws.specs.Open.{ends_at}
use Rattle.socket_laws.specs.Peers.{HasItsPeers}
use Rattle.socket_laws.proofs.OpenMadeLemmas.{sockets_have_their_peers}
use Rattle.plain_desk.specs.Lent.{coming_to, moments_of, Lent}
use Rattle.plain_desk.proofs.BoxLemmas.{same_box, socket_slot}
use Rattle.socket_laws.specs.Asked.{WereAsked}
use Rattle.line_socket.specs.Owned.{IsOwned}
use Rattle.line_socket.specs.Ready.{HasPeers}
use Rattle.core_laws.specs.Agrees.{AgreesIn}
use Rattle.core_laws.specs.Calls.{for_caller}
use Rattle.zq_world.specs.declared.made.Made.{Made}
use Rattle.zq_world.specs.declared.made.Made.TheVariants as result
use Rattle.zq_world.specs.Piece.{Piece}
use Rattle.zq_world.specs.Way.{made_reply, IsAtMaking, IsNew, MakesOne}
use Rattle.plain_core.specs.Agreeing.{as_open, was_made, Agrees}
use Rattle.plain_core.specs.Fresh.{open_at}
use Rattle.plain_core.specs.Making.{IsFreshMade, IsFreshOf}
use Rattle.plain_core.specs.Sound.{Core, IsAsked, Requests}
use Rattle.plain_core.proofs.FreshLemmas.{fresh_view, no_end, pattern_is}
use Rattle.plain_core.proofs.MakeLemmas.{box_now, has_none, in_order, is_made, is_new, kind_known, left_now, moments_now, opens, owners_before, slot_now}

-- the kind of a socket without peers, which drew no name
kind_of_new : (kind : Kind) (options : Options) → pattern_kind (new_pattern kind options) ≡ kind
kind_of_new Push options = refl
kind_of_new Pull options = refl
kind_of_new Pair options = refl
kind_of_new Dealer options = refl
kind_of_new Req options = refl
kind_of_new Rep options = refl
kind_of_new Router options = refl
kind_of_new Pub options = refl
kind_of_new XPub options = refl
kind_of_new Sub options = refl
kind_of_new XSub options = refl

none_drawn : (kind : Kind) (options : Options) → drawn_of (new_pattern kind options) ≡ 0
none_drawn Push options = refl
none_drawn Pull options = refl
none_drawn Pair options = refl
none_drawn Dealer options = refl
none_drawn Req options = refl
none_drawn Rep options = refl
none_drawn Router options = refl
none_drawn Pub options = refl
none_drawn XPub options = refl
none_drawn Sub options = refl
none_drawn XSub options = refl

if_none : {X : Type 0} (b : Bool) → (let r : List X = if b then [] else [] in r) ≡ []
if_none true = refl
if_none false = refl

module _ {W S N O I T : Type 0} (K : Known S O I N) (k : ℕ) (kind : Kind) (options : Options) (old new : Lent (Given N O I) N T) (s : SockCore AnySock W N O I) (fresh : IsFreshOf K kind options s.number.0 s)
    (asked : IsAsked k (MakeSocket kind options) (Object s.number) old new) where
  abbrev h : Holding N
  h = holding_in (kind_told s.kind) s

  abbrev now : Control
  now = after_all new.items (begun 1)

  abbrev ms : List (Moment N T)
  ms = moments_of (for_caller k new)

  one_open : s.is_open ≡ true
  one_open = fresh.fresh.is_new.is_open

  its_kind : kind_told s.kind ≡ kind
  its_kind = ap pattern_kind (fresh.fresh.without.state_is no_ends) ∙ kind_of_new kind options

  -- ---- what it has
  held_is : h.holds s.number.0 ≡ true
  held_is = ap (λ (b : Bool). b && s.number.0 == s.number.0) one_open ∙ eq-eqb s.number.0 s.number.0 refl

  it_alone : (i : ℕ) → h.holds i ≡ true → i ≡ s.number.0
  it_alone i holds = eqb-true i s.number.0 (right s.is_open (i == s.number.0) holds)

  no_root : h.holds 0 ≡ false
  no_root = ap (λ (b : Bool). b && 0 == s.number.0) one_open ∙ ne_eqb 0 s.number.0 (λ same. (in_order k kind options s.number old new asked).more (sym same))

  none_held : (i : ℕ) → h.ends i ≡ []
  none_held i = ap (λ (ps : List (Place N I)). let r : List (Held N) = if i == s.number.0 then held_in ps else [] in r) fresh.fresh.is_new.no_ends ∙ if_none (i == s.number.0)

  none_had : {X : Type 0} (i : ℕ) (e : EndId) → has_end e (h.ends i) ≡ true → X
  none_had i e is = absurd (never (sym (ap (has_end e) (none_held i)) ∙ is))

  none_here : (i : ℕ) → h.holds i ≡ true → ends_of i now ≡ []
  none_here i holds = ap (λ (n : ℕ). ends_of n now) (it_alone i holds) ∙ has_none k kind options s.number old new asked

  has_ends : HasAll (name_of new.items) now h
  has_ends i holds = record {
    ends = ap (map (λ (x : Held N). x.end)) (none_held i) ∙ sym (ap (filter (λ (e : EndId). is_here (place_of now e))) (none_here i holds));
    named = subst (All (HasBothNames (name_of new.items))) (sym (none_held i)) (All-nil (HasBothNames (name_of new.items)));
    writes = λ e is. none_had i e is;
    delimiters = λ e is met. none_had i e is;
    states = λ e is. none_had i e is;
  }

  its_caller : (i : ℕ) → h.holds i ≡ true → has_after i new.items ≡ Some k
  its_caller i holds = ap (λ (n : ℕ). has_after n new.items) (it_alone i holds) ∙ (in_order k kind options s.number old new asked).has

  kinds : (i : ℕ) → h.holds i ≡ true → h.kind i ≡ kind_after i (items_by k new.items)
  kinds i holds =
      ap (λ (b : Bool). let r : Option Kind = if b then Some (kind_told s.kind) else None in r) holds
      ∙ ap (λ (x : Kind). Some x) its_kind
      ∙ sym (ap (λ (n : ℕ). kind_after n (items_by k new.items)) (it_alone i holds) ∙ kind_known k kind options s.number old new asked)

  said : HasWhatTheySay k ms h
  said =
      let order = asked.order.order in
      let run = subst (λ (n : ℕ). IsControlRun (begun n) new.items) asked.one order.run in
      let may = subst (λ (n : ℕ). AreBy [] (begun n) new.items) asked.one order.by in
      subst (λ (xs : List (Moment N T)). HasWhatTheySay k xs h) (sym (moments_now k kind options s.number old new asked))
      (holders_have_what_is_said N T 1 new.items run order.named may k h no_root its_caller kinds has_ends)

  -- ---- its ends: none
  left_is : left_after s.number.0 ms ≡ now
  left_is = left_now k kind options s.number old new asked

  no_ends_there : ends_at s.number.0 (left_after s.number.0 ms) ≡ []
  no_ends_there =
      ap (ends_at s.number.0) left_is
      ∙ ap (λ (es : List EndId). map (λ (e : EndId). let x : SockEnd = record { end = e; place = place_of now e } in x) es) (has_none k kind options s.number old new asked)

  none_sealed : (e : EndId) → list_any (is_end e) (map (λ x. x.0) s.sealed.items) ≡ true → ⊥
  none_sealed e sealed = never (sym (ap (λ (xs : List (EndId × Unit {0})). list_any (is_end e) (map (λ x. x.0) xs)) fresh.fresh.is_new.no_seals) ∙ sealed)

  owned : (pipes : S) → IsOwned K k ms pipes s
  owned pipes = record {
    stands = fresh.stands pipes;
    has = said;
    held = held_is;
    is_open = opens k kind options s.number old new asked;
    ends_are = no_end s.number.0 kind options s fresh.fresh ∙ sym no_ends_there;
    sealed_out = λ e sealed. absurd (none_sealed e sealed);
  }

  -- ---- nothing is on its way to it
  abbrev box : ℕ
  box = (slot_after s.number.0 ms).0

  box_is : (slot_after s.number.0 ms).0 ≡ 1 + s.number.0
  box_is = box_now k kind options s.number old new asked

  -- which no other object shares
  of_another : (e : EndId) → box ≡ (obj (control_of new.past).rows (owner_of (control_of new.past) e)).slot → ⊥
  of_another e same =
      let d = control_of new.past in
      let order = asked.order in
      let open_now = (in_order k kind options s.number old new asked).open_now in
      let less = owners_before k kind options s.number old new asked e in
      let there = socket_there d.rows s.number.0 open_now.socket in
      let own = socket_slot new.past.workers d order.boxes s.number.0 open_now.socket ∙ ap (λ (n : ℕ). n + s.number.0) asked.one ∙ sym box_is in
      let one = same_box new.past.workers d order.boxes s.number.0 (owner_of d e) open_now.socket (omega (arith, less, there)) (own ∙ same) in
      omega (arith, less, one)

  none_coming : (e : EndId) → coming_to new box e ≡ false
  none_coming e =
      ap (λ (b : Bool). is_away (place_of (control_of new.past) e) && b)
      (ne_eqb box (obj (control_of new.past).rows (owner_of (control_of new.past) e)).slot (λ same. of_another e same))
      ∙ no_and (is_away (place_of (control_of new.past) e))

  agrees : (pipes : S) → AgreesIn K new k pipes s
  agrees pipes = record {
    owned = owned pipes;
    asked = subst (λ (xs : List (EndId × Unit {0})). WereAsked (control_of new.past) (map (λ x. x.0) xs)) (sym fresh.fresh.is_new.no_seals) tt;
    binds = λ e x coming written read. absurd (never (sym (none_coming e) ∙ coming));
  }

  -- ---- its peers: none
  peers : HasPeers ms s
  peers = record {
    peers = subst HasItsPeers (sym (fresh_view s.number.0 kind options s fresh.fresh 0)) none_yet;
    drawn = let none = ap drawn_of (pattern_is s.number.0 kind options s fresh.fresh) ∙ none_drawn kind options in omega (arith, none);
  }
    where
      made : Moment N T
      made = record { found = begun 0; item = Event (record { by = k; did = DidAsk (MakeSocket kind options) (Object s.number) asked.answered }) }

      at_first : HasItsPeers (new_open made s.number.0 kind options)
      at_first = (sockets_have_their_peers N T).made made s.number.0 kind options

      none_yet : HasItsPeers (open_at 0 s.number.0 kind options)
      none_yet = record { once = at_first.once; peers = λ n e lt. let is = at_first.peers n e lt in record { here = is.here; in_use = is.in_use } }

-- ---- what a core makes
module _ {W S N O I T : Type 0} (K : Known S O I N) (k : ℕ) (kind : Kind) (options : Options) (was is : Core S (Given N O I) N T) where
  new_socket : (oid : ObjId) (s : SockCore AnySock W N O I) → IsFreshOf K kind options oid.0 s → IsAsked k (MakeSocket kind options) (Object oid) was.desk is.desk → IsNew as_open (Agrees W K) was_made k (result.Socket oid (Some s)) was is
  new_socket oid s fresh asked =
      let same : s.number.0 ≡ oid.0 = fresh.fresh.is_new.number_is in
      let its = subst (λ (n : ℕ). IsFreshOf K kind options n s) (sym same) fresh in
      let asks = subst (λ (x : ObjId). IsAsked k (MakeSocket kind options) (Object x) was.desk is.desk) (sym (ap id same)) asked in (
        is_new k kind options oid was.desk is.desk asked,
        (
          is_made k kind options oid was.desk is.desk asked,
          record {
            agrees = agrees K k kind options was.desk is.desk s its asks is.pipes;
            box = box_is K k kind options was.desk is.desk s its asks;
            ready = λ not_wanted. record { whole = fresh.fresh.without.left_is; peers = peers K k kind options was.desk is.desk s its asks };
          },
        ),
      )

  pub new_made : (reply : Reply) (made : Made (Option (SockCore AnySock W N O I))) → made_reply made ≡ reply → IsFreshMade K kind options made → IsAsked k (MakeSocket kind options) reply was.desk is.desk → IsNew as_open (Agrees W K) was_made k made was is
  new_made reply (result.Socket oid None) same fresh asked = absurd fresh
  new_made reply (result.Socket oid (Some s)) same fresh asked = new_socket oid s fresh (subst (λ (r : Reply). IsAsked k (MakeSocket kind options) r was.desk is.desk) (sym same) asked)
  new_made reply (result.Refused refusal) same fresh asked = tt

  at_making : (made : Made (Option (SockCore AnySock W N O I))) → IsFreshMade K kind options made → IsAsked k (MakeSocket kind options) (made_reply made) was.desk is.desk → (m : Moment N T) → left_by m ≡ after_all is.desk.items (begun 1) → IsAtMaking as_open m kind options made
  at_making (result.Socket oid None) fresh asked m left = absurd fresh
  at_making (result.Socket oid (Some s)) fresh asked m left =
      fresh_view oid.0 kind options s fresh.fresh (1 + s.number.0)
      ∙ ap (λ (n : ℕ). open_at n oid.0 kind options)
      (ap (λ (n : ℕ). 1 + n) fresh.fresh.is_new.number_is ∙ sym (slot_now k kind options oid was.desk is.desk asked) ∙ ap (λ (c : Control). (obj c.rows oid.0).slot) (sym left))
  at_making (result.Refused refusal) fresh asked m left = tt

  pub makes_one : (before after : List (Piece N T)) (reply : Reply) (made : Made (Option (SockCore AnySock W N O I))) → made_reply made ≡ reply → IsFreshMade K kind options made → IsAsked k (MakeSocket kind options) reply was.desk is.desk →
      Requests k (MakeSocket kind options) reply is.desk.items before after → MakesOne as_open k kind options made before after
  makes_one before after reply made same fresh asked requests =
      let asks = subst (λ (r : Reply). IsAsked k (MakeSocket kind options) r was.desk is.desk) (sym same) asked in
      let made_so = subst (λ (r : Reply). Requests k (MakeSocket kind options) r is.desk.items before after) (sym same) requests in record {
        asked = made_so.asked;
        request = made_so.request;
        at_making = at_making made fresh asks made_so.asked made_so.left;
        adds = made_so.adds;
      }
