-- What calls of an open socket leave to the reaper.
use Rattle.std.specs.Prelude.{◌≡◌, ◌≢◌, ◌<◌, ◌==◌, ◌||◌, ◌++◌, ℕ, suc, Bool, true, false, not, List, [], ◌∷◌, Option, Some, None, All, filter, is_some, map, refl}
use Rattle.std.specs.List.{AllByRecursion, list_any}
use Rattle.std.proofs.Common.{arith, sym, ap, ◌∙◌, subst}
use Rattle.std.proofs.lemmas.Bool.{eq-eqb, eqb-true}
use Rattle.std.proofs.lemmas.List.Elements.{All-cons, All-filter, All-head, All-nil, All-tail, All-weaker, filter_passes}
use Rattle.zq_base.specs.Ends.{other_end}
use Rattle.zq_base.specs.declared.ids.EndId.{EndId}
use Rattle.spec_control.specs.declared.entry.Item.{Item}
use Rattle.spec_control.specs.Place.{Place, Unmade, Away, At, is_away, is_here}
use Rattle.spec_control.specs.Rows.{PairRow, end_place, no_pair, obj}
use Rattle.spec_control.specs.Control.{Control, begun, ends_of as control_ends_of, id, next_pair, owner_of, place_of}
use Rattle.spec_control.specs.ControlRun.{after_all, after_item, is_between, IsControlRun}
use Rattle.spec_control.specs.Names.{name_of}
use Rattle.control_laws.proofs.ListLemmas.{never, placed}
use Rattle.control_laws.specs.Kept.{Kept}
use Rattle.control_laws.proofs.MoveLemmas.{is_at}
use Rattle.spec_control.specs.Held.{Held, items_by}
use Rattle.spec_control.specs.Has.{has_after}
use Rattle.spec_control.specs.Moments.{Moment, items_in, moments_from}
use Rattle.spec_control.specs.OwnAsks.{known_after}
use Rattle.spec_control.proofs.OwnLemmas.{own_has}
use Rattle.spec_pattern.specs.Half.{Reading, Writing}
use Rattle.msg_pipe.specs.Known.{Known, IsThere}
use Rattle.ctl_moves.proofs.HeldLemmas.{other_twice}
use Rattle.desk.specs.declared.given.Given.{Given}
use Rattle.desk.specs.Holding.{held_given, Holding}
use Rattle.desk.specs.Lent.{has_writer, here_ends, owner_by, place_by, HasAll}
use Rattle.desk.specs.TakingOver.{AreDistinct, AreGivenWith, IsGivenWith}
use Rattle.ctl_plane.specs.Giving.{IsOnItsWay}
use Rattle.ctl_plane.specs.Past.{control_of}
use Rattle.desk.specs.Desk.{HasWhatTheySay}
use Rattle.desk.specs.Kinds.{kind_after}
use Rattle.control_laws.proofs.HaveLemmas.{lent_holders_have_it}
use Rattle.control_laws.proofs.LawLemmas.{open_not}
use Rattle.control_laws.proofs.MomentLemmas.{own_moments}
use Rattle.end_table.specs.declared.table.Place.{Place as PlaceOf}
use Rattle.end_table.specs.Places.{place_at}
use Rattle.control_laws.proofs.KnownLemmas.{known_sockets_have_kinds}
use Rattle.socket_laws.specs.Asked.{asked_rank, EndsAreSealedOnce, WereAsked}
use Rattle.socket_laws.specs.Said.{sealed_with}
use Rattle.socket_laws.specs.Places.{is_end_of}
use Rattle.closed_ends.specs.declared.sockets.ClosedSockets.{ClosedSockets}
use Rattle.closed_ends.specs.Finding.{place_given}
use Rattle.closed_ends.specs.Has.{all_ends, ends_of, holding_in, is_socket}
use Rattle.closed_ends.specs.Sound.{AreSound}
use Rattle.closed_ends.proofs.AddLemmas.{from_map}
use Rattle.closed_ends.proofs.ChangeLemmas.{all_in}
use Rattle.closed_ends.proofs.FormLemmas.{sound_of}
use Rattle.plain_desk.specs.Lent.{moments_of, GrowsBy, HasSocket, IsOneOrder, Lent}
use Rattle.socket_laws.proofs.LastLemmas.{others_stay}
use Rattle.socket_laws.proofs.NewLemmas.{any_of}
use Rattle.socket_laws.proofs.SocketLemmas.{is_in, kept_now}
use Rattle.line_socket.specs.Leaving.{IsNoneItReads, IsNoneItSettled, IsNoneItWrites, LeavesPipes}
use Rattle.core_laws.specs.Calls.{AreCallsOn, for_caller}
use Rattle.core_laws.proofs.ApartLemmas.{is_out, other_out}
use Rattle.core_laws.proofs.ChainLemmas.{IsOwn, kept_then, own_then}
use Rattle.plain_desk.proofs.StayLemmas.{found_by, kept_found, led_more, run_more}
use Rattle.core_laws.proofs.OwnedLemmas.{has_still}
use Rattle.core_laws.proofs.SilentLemmas.{one_order_of, own_say_same}
use Rattle.core_laws.specs.Here.{AreHere}
use Rattle.core_laws.proofs.HereLemmas.{reaper_ends_are_here}
use Rattle.core_laws.specs.Reaper.{AskedStay, ElseBehind, ElseStay, IsEndElse, IsNamedEnd, ReapersKeep}

none_some : {X : Type 0} {x : X} → None ≡ Some x → ⊥
none_some e = Prim.grind arith

some_is : {X : Type 0} {x y : X} → Some x ≡ Some y → x ≡ y
some_is e = Prim.grind arith

first_not : (b c : Bool) → (b || c) ≡ false → b ≡ true → ⊥
first_not true c e is = never (sym e)
first_not false c e is = never is

-- ---- whoever has objects of no kind
module _ {G N T : Type 0} (d : Lent G N T) (order : IsOneOrder d) (j : ℕ) (h : Holding N) (none : (i : ℕ) → h.kind i ≡ None) (say : HasWhatTheySay j (moments_of (for_caller j d)) h) (i : ℕ) (holds : h.holds i ≡ true) where
  own : items_in (moments_of (for_caller j d)) ≡ items_by j d.items
  own = own_moments j d.items (begun d.past.workers)

  no_root : i ≢ 0
  no_root same = never (sym say.no_root ∙ ap h.holds (sym same) ∙ holds)

  pub its_caller : has_after i d.items ≡ Some j
  its_caller = (let all = order.order in own_has (begun d.past.workers) d.items all.by i j no_root (ap (has_after i) (sym own) ∙ say.objects i holds))

  -- has no open socket among them
  pub not_open : (k o : ℕ) → HasSocket (for_caller k d) (id o) → i ≢ o
  not_open k o known same = never (sym (ap is_some no_kind) ∙ some_kind)
    where
      mine : has_after o d.items ≡ Some k
      mine = (is_in (for_caller k d) (one_order_of k d order) o known).has

      one : k ≡ j
      one = some_is (sym mine ∙ ap (λ (n : ℕ). has_after n d.items) (sym same) ∙ its_caller)

      known_here : (known_after i (items_by j d.items)).open_socket ≡ true
      known_here =
          ap (λ (xs : List (Item N T)). (known_after i xs).open_socket) (sym own)
          ∙ ap (λ (n : ℕ). (known_after n (items_in (moments_of (for_caller j d)))).open_socket) same
          ∙ ap (λ (n : ℕ). (known_after o (items_in (moments_of (for_caller n d)))).open_socket) (sym one) ∙ known

      some_kind : is_some (kind_after i (items_by j d.items)) ≡ true
      some_kind = sym (known_sockets_have_kinds N T (items_by j d.items) i) ∙ known_here

      no_kind : kind_after i (items_by j d.items) ≡ None
      no_kind = ap (kind_after i) (sym own) ∙ sym (say.kinds i holds) ∙ none i

pub reapers_keep : (G N T : Type 0) → ReapersKeep G N T
reapers_keep G N T o old new calls had j h none say = by (j == old.caller) refl
  where
    grows : GrowsBy old new
    grows = calls.grows

    mine : HasWhatTheySay old.caller (moments_of (for_caller old.caller old)) h → HasWhatTheySay old.caller (moments_of (for_caller old.caller new)) h
    mine say =
        let now = has_still old.caller (moments_of old) (moments_of new) h
        (λ i holds. own_say_same old new o i (λ same. not_open old calls.before old.caller h none say i holds old.caller o had (sym same)) calls (its_caller old calls.before old.caller h none say i holds)) say in
        subst (λ (k : ℕ). HasWhatTheySay old.caller (moments_of (for_caller k new)) h) grows.caller now

    by : (b : Bool) → (j == old.caller) ≡ b → HasWhatTheySay j (moments_of (for_caller j new)) h
    by true e =
        let same = eqb-true j old.caller e in
        subst (λ (k : ℕ). HasWhatTheySay k (moments_of (for_caller k new)) h) (sym same) (mine (subst (λ (k : ℕ). HasWhatTheySay k (moments_of (for_caller k old)) h) same say))
    by false e = subst (λ (ms : List (Moment N T)). HasWhatTheySay j ms h) (sym (others_stay G N T old new grows j (λ same. never (sym e ∙ eq-eqb j old.caller same)))) say

-- ---- the ends of closed sockets
-- the pipes of a place go by its names, and where its writing half is there its end was not asked to give it away
record IsPlaceNamed {N I : Type 0} (names : EndId → Option N) (c : Control) (p : PlaceOf N I) : Type 0 where
  written : names p.end ≡ Some p.written
  read : names (other_end p.end) ≡ Some p.read
  writes : p.writes ≡ true → has_writer (place_of c p.end) ≡ true

module _ {N O I : Type 0} (in_name : I → N) where
  -- what is so of each place of such ends is so of each of them
  from_places : (Q : PlaceOf N I → Type 0) (gs : List (Given N O I)) → ((k : ℕ) (p : PlaceOf N I) → place_at (map (place_given in_name) gs) k ≡ Some p → Q p) → All (λ g. Q (place_given in_name g)) gs
  from_places Q [] each = All-nil (λ (g : Given N O I). Q (place_given in_name g))
  from_places Q (g ∷ gs) each = All-cons (λ (x : Given N O I). Q (place_given in_name x)) g gs (each 0 (place_given in_name g) refl) (from_places Q gs (λ k p at. each (suc k) p at))

module _ {P N O I : Type 0} (K : Known P O I N) {G T : Type 0} (d : Lent G N T) (order : IsOneOrder d) (j : ℕ) (pipes : P) (closed : ClosedSockets N O I) (sound : AreSound K pipes closed.sockets.items)
    (say : HasWhatTheySay j (moments_of (for_caller j d)) (holding_in K.out_name K.in_name closed)) where
  abbrev c : Control
  c = control_of d.past

  has : HasAll (name_of d.items) (control_of d.past) (holding_in K.out_name K.in_name closed)
  has =
      let all = order.order in
      subst (λ (x : Control). HasAll (name_of d.items) x (holding_in K.out_name K.in_name closed)) (sym order.control)
      (lent_holders_have_it N T d.past.workers d.items all.run all.named all.by j (holding_in K.out_name K.in_name closed) say)

  here : AreHere (control_of d.past) (name_of d.items) (map (place_given K.in_name) (all_ends closed.sockets.items))
  here = reaper_ends_are_here K (control_of d.past) (name_of d.items) pipes closed sound has

  named_at : (k : ℕ) (p : PlaceOf N I) → place_at (map (place_given K.in_name) (all_ends closed.sockets.items)) k ≡ Some p → IsPlaceNamed (name_of d.items) (control_of d.past) p
  named_at k p at = record { written = (here.named k p at).0; read = (here.named k p at).1; writes = (here.held k p at).writes }

  pub all_named : All (IsNamedEnd K.in_name d d) (all_ends closed.sockets.items)
  all_named =
      let named = from_places K.in_name (IsPlaceNamed (name_of d.items) (control_of d.past)) (all_ends closed.sockets.items) named_at in
      λ k g lt. record { written = (named k g lt).written; read = (named k g lt).read; writes = (named k g lt).writes }

  module _ (o : ℕ) (other : (n : ℕ) → list_any (is_socket n) closed.sockets.items ≡ true → n ≢ o) where
    of_socket : (n : ℕ) → list_any (is_socket n) closed.sockets.items ≡ true → All (λ g. owner_of (control_of d.past) g.end ≢ o) (ends_of closed.sockets.items n)
    of_socket n holds =
        from_map (λ (x : Held N). owner_of (control_of d.past) x.end ≢ o) (held_given K.out_name K.in_name) (ends_of closed.sockets.items n)
        (from_map (λ (e : EndId). owner_of (control_of d.past) e ≢ o) (λ (x : Held N). x.end) (map (held_given K.out_name K.in_name) (ends_of closed.sockets.items n))
        (subst (All (λ (e : EndId). owner_of (control_of d.past) e ≢ o)) (sym (has n holds).ends) others))
      where
        owned : All (λ e. (owner_by c.rows.pairs e == n) ≡ true) (here_ends c.rows.pairs c.attached n)
        owned = All-filter (λ e. is_here (place_by c.rows.pairs e)) (λ e. (owner_by c.rows.pairs e == n) ≡ true) (filter (λ e. owner_by c.rows.pairs e == n) c.attached)
            (filter_passes (λ e. owner_by c.rows.pairs e == n) c.attached)

        others : All (λ e. owner_of c e ≢ o) (here_ends c.rows.pairs c.attached n)
        others = All-weaker (λ e. (owner_by c.rows.pairs e == n) ≡ true) (λ e. owner_of c e ≢ o)
            (λ e is same. other n holds (sym (eqb-true (owner_by c.rows.pairs e) n is) ∙ same)) (here_ends c.rows.pairs c.attached n) owned

    apart : All (λ g. owner_of (control_of d.past) g.end ≢ o) (all_ends closed.sockets.items)
    apart = all_in (λ (g : Given N O I). owner_of (control_of d.past) g.end ≢ o) closed.sockets.items (sound_of K pipes closed.sockets.items sound).alone of_socket

    pub all_else : All (IsEndElse K.in_name o d d) (all_ends closed.sockets.items)
    all_else = λ k g lt. record { named = all_named k g lt; other = apart k g lt }

closed_behind : {P N O I : Type 0} (K : Known P O I N) (G T : Type 0) (o : ℕ) (old new : Lent G N T) → AreCallsOn o old new → HasSocket old (id o) → (j : ℕ) (pipes : P) (closed : ClosedSockets N O I) →
    AreSound K pipes closed.sockets.items → HasWhatTheySay j (moments_of (for_caller j old)) (holding_in K.out_name K.in_name closed) → All (IsEndElse K.in_name o new new) (all_ends closed.sockets.items)
closed_behind {N = N} K G T o old new calls had j pipes closed sound say =
    let h : Holding N = holding_in K.out_name K.in_name closed in
    all_else K new calls.behind j pipes closed sound (reapers_keep G N T o old new calls had j h (λ m. refl) say) o (λ n holds. not_open old calls.before j h (λ m. refl) say n holds old.caller o had)

-- ---- and those on their way: the owner of an end stays
none_here : (a : Bool) → not (is_here (end_place no_pair a)) ≡ true
none_here true = refl
none_here false = refl

at_here : (p : Place) → is_here p ≡ true → is_at p ≡ true
at_here Unmade is = absurd (never is)
at_here Away is = absurd (never is)
at_here (At state) is = refl

own_over : {N T : Type 0} (n : ℕ) (e : EndId) (xs : List (Item N T)) (c : Control) → Kept c → IsControlRun c xs → IsOwn n c e → IsOwn n (after_all xs c) e
own_over n e [] c kept run own = own
own_over n e (x ∷ xs) c kept run own = own_over n e xs (after_item x c) (kept_then x c kept run.0) run.1 (own_then x c kept run.0 n e own)

module _ {G N T : Type 0} (o : ℕ) (old new : Lent G N T) (calls : AreCallsOn o old new) (e : EndId) (here : is_here (place_of (control_of old.past) e) ≡ true) where
  grown : GrowsBy old new
  grown = calls.grows

  before : IsOneOrder old
  before = calls.before

  within : e.pair.0 < next_pair (control_of old.past)
  within = placed (λ (p : PairRow). not (is_here (end_place p e.a))) (control_of old.past).rows.pairs no_pair e.pair.0 (none_here e.a) (ap not here)

  owned : IsOwn (owner_of (control_of old.past) e) (found_by old new calls.behind grown) e
  owned = subst (λ (x : Control). IsOwn (owner_of (control_of old.past) e) x e) before.control (record { within = within; at = at_here (place_of (control_of old.past) e) here; own = refl })

  pub same_owner : owner_of (control_of new.past) e ≡ owner_of (control_of old.past) e
  same_owner =
      ap (λ (x : Control). owner_of x e) (led_more old new calls.behind grown)
      ∙ (own_over (owner_of (control_of old.past) e) e grown.more (found_by old new calls.behind grown) (kept_found old new calls.behind grown before) (run_more old new calls.behind grown) owned).own

module _ {G N T O I : Type 0} (in_name : I → N) (o : ℕ) (old new : Lent G N T) (calls : AreCallsOn o old new) (had : HasSocket old (id o)) where
  else_one : (g : Given N O I) → IsOnItsWay in_name (control_of old.past) (name_of old.items) g → IsOnItsWay in_name (control_of new.past) (name_of new.items) g → IsEndElse in_name o new new g
  else_one g was is = record {
    named = record { written = is.written; read = is.read; writes = λ out. sym is.writes ∙ out };
    other = λ same.
        let order : IsOneOrder old = calls.before in
        let free = open_not (obj (control_of old.past).rows o) (is_in old order o had).open_now in
        let owner = sym (same_owner o old new calls g.end was.here) ∙ same in
        never (sym free ∙ ap (λ (n : ℕ). is_between (obj (control_of old.past).rows n)) (sym owner) ∙ was.between);
  }

  given_behind : (gs more : List (Given N O I)) → All (IsOnItsWay in_name (control_of old.past) (name_of old.items)) gs → All (IsOnItsWay in_name (control_of new.past) (name_of new.items)) (gs ++ more) → All (IsEndElse in_name o new new) gs
  given_behind [] more was is = All-nil (IsEndElse in_name o new new)
  given_behind (g ∷ gs) more was is =
      All-cons (IsEndElse in_name o new new) g gs
      (else_one g (All-head (IsOnItsWay in_name (control_of old.past) (name_of old.items)) g gs was) (All-head (IsOnItsWay in_name (control_of new.past) (name_of new.items)) g (gs ++ more) is))
      (given_behind gs more (All-tail (IsOnItsWay in_name (control_of old.past) (name_of old.items)) g gs was) (All-tail (IsOnItsWay in_name (control_of new.past) (name_of new.items)) g (gs ++ more) is))

pub else_behind : {P N O I : Type 0} (K : Known P O I N) (G T : Type 0) → ElseBehind K G T
else_behind K G T = record {
  closed = λ o old new calls had j pipes closed sound say. closed_behind K G T o old new calls had j pipes closed sound say;
  given = λ o old new calls had gs more was is. given_behind K.in_name o old new calls had gs more was is;
}

-- ---- their pipes are other than those of the socket
its_owner : (o : ℕ) (c : Control) (e : EndId) → is_end_of o c e ≡ true → owner_of c e ≡ o
its_owner o c e its = eqb-true (owner_of c e) o (any_of (λ x. (owner_of c x == o) ≡ true) (control_ends_of o c) e (filter_passes (λ x. owner_of c x == o) c.attached) its)

module _ {P N O I : Type 0} (K : Known P O I N) {G T : Type 0} (o : ℕ) (d new : Lent G N T) (order : IsOneOrder new) (distinct : AreDistinct K.exact (name_of d.items)) where
  module _ (g : Given N O I) (else : IsEndElse K.in_name o d new g) where
    name : IsNamedEnd K.in_name d new g
    name = else.named

    ends : (e : EndId) → is_end_of o (control_of d.past) e ≡ true → g.end ≢ e
    ends e its same = else.other (ap (owner_of (control_of d.past)) same ∙ its_owner o (control_of d.past) e its)

    unwritten : IsNoneItWrites K o d g.written
    unwritten e w its named exact same = ends e its (distinct exact g.end e g.written name.written (named ∙ ap (λ (n : N). Some n) (sym same)))

    unread : IsNoneItReads K o d (K.in_name g.input)
    unread e r its named exact same =
        ends e its (sym (other_twice g.end) ∙ ap other_end (distinct exact (other_end g.end) (other_end e) (K.in_name g.input) name.read (named ∙ ap (λ (n : N). Some n) (sym same))) ∙ other_twice e)

    unsettled : is_some g.out ≡ true → IsNoneItSettled K o d g.written (control_of new.past)
    unsettled writes e r its gone named exact same =
        let across = distinct exact g.end (other_end e) g.written name.written (named ∙ ap (λ (n : N). Some n) (sym same)) in
        first_not (has_writer (place_of (control_of new.past) g.end)) (is_away (place_of (control_of new.past) g.end))
        (ap (λ (x : EndId). is_out (place_of (control_of new.past) x)) across ∙ other_out (control_of new.past) (kept_now new order) e gone) (name.writes writes)

  module _ (before behind : P) (left : LeavesPipes K o d (control_of new.past) before behind) where
    given_one : (g : Given N O I) → IsEndElse K.in_name o d new g → IsGivenWith K before g → IsGivenWith K behind g
    given_one g else is = record {
      read_there = left.there (K.in_name g.input) is.read_there;
      met = λ m. ap (λ (r : Reading). r.ended) (left.ins g.input is.read_there (unread g else)) ∙ is.met m;
      out_is = is.out_is;
      written_there = λ out at. left.there g.written (is.written_there out at);
      unsealed = λ out at sealed.
          ap (λ (w : Writing). w.sealed) (left.outs out (subst (IsThere K before) (sym (is.out_is out at)) (is.written_there out at))
          (subst (λ (n : N). IsNoneItWrites K o d n) (sym (is.out_is out at)) (unwritten g else))
          (subst (λ (n : N). IsNoneItSettled K o d n (control_of new.past)) (sym (is.out_is out at)) (unsettled g else (ap is_some at))))
          ∙ is.unsealed out at sealed;
    }

    pub given_all : (gs : List (Given N O I)) → All (IsEndElse K.in_name o d new) gs → AreGivenWith K before gs → AreGivenWith K behind gs
    given_all gs all is = λ k g lt. given_one _ (all k g lt) (is k g lt)

pub else_stay : {P N O I : Type 0} (K : Known P O I N) (G T : Type 0) → ElseStay K G T
else_stay K G T = record {
  given = λ o d new order distinct before behind left gs all is. given_all K o d new order distinct before behind left gs all is;
  sound = λ o d new order distinct before behind left ss all is. record {
    halves = given_all K o d new order distinct before behind left (all_ends ss) all is.halves;
    apart = is.apart;
    alone = is.alone;
  };
}

-- ---- ends that were asked
first_all : {X : Type 0} (Q : X → Type 0) (xs ys : List X) → AllByRecursion Q (xs ++ ys) → AllByRecursion Q xs
first_all Q [] ys all = tt
first_all Q (x ∷ xs) ys all = (all.0, first_all Q xs ys all.1)

pub asked_stay : (G N T : Type 0) → EndsAreSealedOnce N T → AskedStay G N T
asked_stay G N T once old new was is grows es asked =
    let order = was.order in
    let w = old.past.workers in
    let ms = moments_from (after_all old.items (begun w)) grows.more in
    let found = subst (λ (x : Control). WereAsked x es) was.control asked in
    let both = once w old.items grows.more order.run (run_more old new is grows) es found in
    let now = after_all grows.more (after_all old.items (begun w)) in
    subst (λ (x : Control). WereAsked x es) (sym (led_more old new is grows))
    (first_all (λ (e : EndId). (e.pair.0 < next_pair now) × (0 < asked_rank (place_of now e))) es (sealed_with ms) both.1)
