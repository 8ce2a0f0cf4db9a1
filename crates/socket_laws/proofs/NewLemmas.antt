-- An end on its way to a socket is none of its ends, and its halves may join it still behind a call of the socket's.
use Rattle.std.specs.Prelude.{◌≡◌, ◌≢◌, ◌<◌, ◌==◌, ◌||◌, ◌++◌, ◌∷◌, [], ℕ, Bool, true, false, cond, filter, map, not, List, None, Some, All, refl}
use Rattle.std.specs.List.{list_any}
use Rattle.std.proofs.Common.{arith, sym, ap, ◌∙◌, subst}
use Rattle.std.proofs.lemmas.Bool.{eq-eqb, eqb-true}
use Rattle.std.proofs.lemmas.List.Elements.{All-cons, All-head, All-tail, All-filter, All-nil, All-weaker}
use Rattle.zq_base.specs.Ends.{other_end}
use Rattle.zq_base.specs.declared.ids.EndId.{EndId}
use Rattle.zq_base.specs.declared.ids.SlotId.{SlotId}
use Rattle.spec_control.specs.declared.entry.Item.{Item}
use Rattle.spec_control.specs.declared.entry.Item.TheVariants.{Event, Seen}
use Rattle.spec_control.specs.Place.{Place as IsAt, Unmade, Away, At, is_away, is_here}
use Rattle.spec_control.specs.Rows.{PairRow, end_owner, obj, pair}
use Rattle.spec_control.specs.Control.{Control, begun, ends_of, id, is_end, next_pair, owner_of, place_of}
use Rattle.spec_control.specs.After.{after}
use Rattle.spec_control.specs.ControlRun.{FitsItem, after_item}
use Rattle.spec_control.specs.Names.{name_of}
use Rattle.spec_control.specs.Held.{Held}
use Rattle.spec_control.specs.Moments.{left_after}
use Rattle.control_laws.proofs.ListLemmas.{never, and, left, right}
use Rattle.control_laws.specs.Kept.{Kept}
use Rattle.control_laws.proofs.AskLemmas.{end_self, same_end}
use Rattle.control_laws.proofs.RootLemmas.{begun_kept}
use Rattle.control_laws.proofs.AttachedLemmas.{attached_after}
use Rattle.control_laws.proofs.LeadLemmas.{old_end}
use Rattle.control_laws.proofs.MoveLemmas.{is_at}
use Rattle.control_laws.proofs.AttachedOnceLemmas.{AreOld, IsOld, old_run}
use Rattle.msg_pipe.specs.Known.{Known, IsElse}
use Rattle.ctl_moves.proofs.HeldLemmas.{other_twice}
use Rattle.desk.specs.Holding.{has_end}
use Rattle.desk.specs.Lent.{HasBothNames, HasEnds}
use Rattle.desk.specs.declared.halves.Halves.{Halves}
use Rattle.desk.specs.TakingOver.{AreDistinct}
use Rattle.ctl_plane.specs.Past.{control_of}
use Rattle.desk.specs.Desk.{slot_after}
use Rattle.end_table.specs.declared.table.Place.{Place}
use Rattle.end_table.specs.Places.{place_at}
use Rattle.control_laws.proofs.HaveLemmas.{lent_holders_have_it}
use Rattle.control_laws.proofs.MomentLemmas.{left_snoc}
use Rattle.control_laws.proofs.HeldOthersLemmas.{IsIts, its_ends}
use Rattle.sock_core.specs.declared.sock.SockCore.{SockCore}
use Rattle.sock_calls.specs.Calls.{LeavesOthers, MayJoin}
use Rattle.sock_calls.proofs.CallsLemmas.{others_join}
use Rattle.control_laws.proofs.AwayLemmas.{joins_self, pairs_are_apart}
use Rattle.plain_desk.specs.Lent.{coming_to, moments_of, HasSocket, IsOneOrder, Lent}
use Rattle.socket_laws.specs.Behind.{is_its_end, IsNoneOfIts, IsOfIts, SettlesOwn}
use Rattle.socket_laws.specs.Laws.{BindsFitStill, ComingEndsAreNew, EndsStayIts, HeldEndsAreIts}
use Rattle.socket_laws.proofs.LastLemmas.{moments_are_last}
use Rattle.socket_laws.proofs.SendLemmas.{fits_last}
use Rattle.control_laws.proofs.SoundLemmas.{sound_of}
use Rattle.plain_desk.proofs.BoxLemmas.{same_box, socket_slot}
use Rattle.socket_laws.proofs.SocketLemmas.{is_in, kept_now, sockets_stay_open}

none_some : {X : Type 0} {x : X} → None ≡ Some x → ⊥
none_some e = Prim.grind arith

away_not : (p : IsAt) → is_away p ≡ true → is_at p ≡ true → ⊥
away_not Unmade away at = never away
away_not Away away at = never at
away_not (At state) away at = never away

pub any_of : (P : EndId → Type 0) (es : List EndId) (x : EndId) → All P es → list_any (is_end x) es ≡ true → P x
any_of P [] x all is = absurd (never is)
any_of P (e ∷ es) x all is = by (is_end x e) refl is (any_of P es x (All-tail P e es all))
  where
    by : (b : Bool) → is_end x e ≡ b → (b || list_any (is_end x) es) ≡ true → (list_any (is_end x) es ≡ true → P x) → P x
    by true same h rest = subst P (sym (same_end x e same)) (All-head P e es all)
    by false other h rest = rest h

any_ends : {N : Type 0} (e : EndId) (hs : List (Held N)) → list_any (is_end e) (map (λ x. x.end) hs) ≡ has_end e hs
any_ends e [] = refl
any_ends e (x ∷ hs) = ap (λ (b : Bool). is_end e x.end || b) (any_ends e hs)

-- a pair of which both ends are this object's joins it with itself
both_its : (p : PairRow) (a : Bool) (o : ℕ) → end_owner p a ≡ o → end_owner p (not a) ≡ o → joins_self o p ≡ true
both_its p true o mine theirs = and (p.a_owner == o) (p.b_owner == o) (eq-eqb p.a_owner o mine) (eq-eqb p.b_owner o theirs)
both_its p false o mine theirs = and (p.a_owner == o) (p.b_owner == o) (eq-eqb p.a_owner o theirs) (eq-eqb p.b_owner o mine)

pub record IsThere (c : Control) (o : ℕ) (e : EndId) : Type 0 where
  pub at : is_at (place_of c e) ≡ true
  pub own : owner_of c e ≡ o

-- ---- the ends of a socket
module _ {G N S : Type 0} (d : Lent G N S) (o : ℕ) (order : IsOneOrder d) (known : HasSocket d (id o)) where
  abbrev pub c : Control
  c = control_of d.past

  old : AreOld c
  old = (let all = order.order in subst AreOld (sym order.control) (old_run d.past.workers d.items all.run))

  all_there : All (IsThere c o) (ends_of o c)
  all_there = both (ends_of o c) (All-filter (λ e. owner_of c e == o) (IsOld c) c.attached old) (its_ends c o (All-weaker (IsOld c) (λ e. e.pair.0 < next_pair c) (λ e is. is.within) c.attached old))
    where
      both : (es : List EndId) → All (IsOld c) es → All (IsIts c o) es → All (IsThere c o) es
      both es were its k x lt = record { at = (were k x lt).at; own = (its k x lt).own }

  ends_same : ends_of o (left_after o (moments_of d)) ≡ ends_of o c
  ends_same =
      let all = order.order in
      let is = is_in d order o known in
      let w = d.past.workers in
      let left_so = left_snoc d.caller o is.more d.items [] (begun w) (begun 0) (begun_kept w) (All-nil (IsOld (begun w))) all.run all.by (λ e. absurd (none_some e)) is.has in
      left_so.ends ∙ ap (ends_of o) (sym order.control)

  pub there : (x : EndId) → is_its_end o d x ≡ true → IsThere c o x
  there x its = any_of (IsThere c o) (ends_of o c) x all_there (ap (list_any (is_end x)) (sym ends_same) ∙ its)

  module _ (e : EndId) (coming : coming_to d (slot_after o (moments_of d)).0 e ≡ true) where
    pub away : is_away (place_of c e) ≡ true
    away = left (is_away (place_of c e)) ((slot_after o (moments_of d)).0 == (obj c.rows (owner_of c e)).slot) coming

    pub mine : owner_of c e ≡ o
    mine =
        let is = is_in d order o known in
        let at = eqb-true (slot_after o (moments_of d)).0 (obj c.rows (owner_of c e)).slot (right (is_away (place_of c e)) ((slot_after o (moments_of d)).0 == (obj c.rows (owner_of c e)).slot) coming) in
        sym (same_box d.past.workers c order.boxes o (owner_of c e) is.open_now.socket ((sound_of c (kept_now d order)).ends e.pair.0 e.a)
        (socket_slot d.past.workers c order.boxes o is.open_now.socket ∙ sym is.slot ∙ at))

    is_none : IsNoneOfIts o d e
    is_none = record {
      other = λ x its same. away_not (place_of c e) away (ap (λ (y : EndId). is_at (place_of c y)) same ∙ (there x its).at);
      across = λ x its same.
          let all = order.order in
          let apart = subst (λ (s : Control). joins_self o (pair s.rows x.pair.0) ≡ false) (sym order.control) (pairs_are_apart x.pair.0 o d.past.workers d.items all.run (is_in d order o known).more) in
          never (sym apart ∙ both_its (pair c.rows x.pair.0) x.a o (there x its).own (ap (owner_of c) (sym same) ∙ mine));
    }

-- ---- they stay its
any_append : (x : EndId) (es fs : List EndId) → list_any (is_end x) es ≡ true → list_any (is_end x) (es ++ fs) ≡ true
any_append x [] fs is = absurd (never is)
any_append x (e ∷ es) fs is = by (is_end x e) is (any_append x es fs)
  where
    by : (b : Bool) → (b || list_any (is_end x) es) ≡ true → (list_any (is_end x) es ≡ true → list_any (is_end x) (es ++ fs) ≡ true) → (b || list_any (is_end x) (es ++ fs)) ≡ true
    by true h rest = refl
    by false h rest = rest h

-- of those that pass a test it is one where it is one and passes it
any_filter : (f : EndId → Bool) (x : EndId) (es : List EndId) → f x ≡ true → list_any (is_end x) es ≡ true → list_any (is_end x) (filter f es) ≡ true
any_filter f x [] passes is = absurd (never is)
any_filter f x (e ∷ es) passes is = by (is_end x e) refl (f e) refl is (any_filter f x es passes)
  where
    by : (b : Bool) → is_end x e ≡ b → (p : Bool) → f e ≡ p → (b || list_any (is_end x) es) ≡ true → (list_any (is_end x) es ≡ true → list_any (is_end x) (filter f es) ≡ true) → list_any (is_end x) (cond p (e ∷ filter f es) (filter f es)) ≡ true
    by true same true pass h rest = ap (λ (b : Bool). b || list_any (is_end x) (filter f es)) same
    by true same false fail h rest = absurd (never (sym fail ∙ ap f (sym (same_end x e same)) ∙ passes))
    by false other true pass h rest = ap (λ (b : Bool). b || list_any (is_end x) (filter f es)) other ∙ rest h
    by false other false fail h rest = rest h

any_whole : (f : EndId → Bool) (x : EndId) (es : List EndId) → list_any (is_end x) (filter f es) ≡ true → list_any (is_end x) es ≡ true
any_whole f x [] is = is
any_whole f x (e ∷ es) is = by (is_end x e) refl (f e) is (any_whole f x es)
  where
    by : (b : Bool) → is_end x e ≡ b → (p : Bool) → list_any (is_end x) (cond p (e ∷ filter f es) (filter f es)) ≡ true → (list_any (is_end x) (filter f es) ≡ true → list_any (is_end x) es ≡ true) → (b || list_any (is_end x) es) ≡ true
    by true same p h rest = refl
    by false other true h rest = rest (sym (ap (λ (b : Bool). b || list_any (is_end x) (filter f es)) other) ∙ h)
    by false other false h rest = rest h

item_ends : {N S : Type 0} (c : Control) (item : Item N S) → Kept c → AreOld c → FitsItem c item → (o : ℕ) (x : EndId) → list_any (is_end x) (ends_of o c) ≡ true → list_any (is_end x) (ends_of o (after_item item c)) ≡ true
item_ends c (Seen sight) kept attached_so fits o x is = is
item_ends {N} {S} c (Event entry) kept attached_so fits o x is = any_filter (λ e. owner_of d e == o) x d.attached mine (ap (list_any (is_end x)) (attached_after c entry.did) ∙ any_append x c.attached _ was)
  where
    d : Control
    d = after entry.did c

    was : list_any (is_end x) c.attached ≡ true
    was = any_whole (λ e. owner_of c e == o) x c.attached is

    mine : (owner_of d x == o) ≡ true
    mine =
        let at = any_of (IsOld c) c.attached x attached_so was in
        let its = any_of (IsIts c o) (ends_of o c) x (its_ends c o (All-weaker (IsOld c) (λ e. e.pair.0 < next_pair c) (λ e is. is.within) c.attached attached_so)) is in
        let same = old_end c entry.did kept fits x at.within at.at in
        eq-eqb (owner_of d x) o (same.owner ∙ its.own)

pub ends_stay_its : (G N S : Type 0) → EndsStayIts G N S
ends_stay_its G N S was now m call o known free e its =
    let last = moments_are_last G N S was now m call in
    let before = call.before in
    let stays = sockets_stay_open G N S was now m call o known free in
    let left_at : after_item m.item (control_of was.past) ≡ control_of now.past = ap (after_item m.item) (sym last.found) ∙ last.left in
    ap (list_any (is_end e)) (ends_same now o call.behind stays.is_open)
    ∙ subst (λ (c : Control). list_any (is_end e) (ends_of o c) ≡ true) left_at
    (item_ends (control_of was.past) m.item (kept_now was before) (old was o before known) (fits_last G N S was now m call) o e
    (ap (list_any (is_end e)) (sym (ends_same was o before known)) ∙ its))

-- ---- those that are held
pub held_ends_are_its : (G N S : Type 0) → HeldEndsAreIts G N S
held_ends_are_its G N S d o order known h say holds = each (h.ends o) (λ x is. is) all.named
  where
    all : HasEnds (name_of d.items) (control_of d.past).rows.pairs (control_of d.past).attached (control_of d.past).reasons h o
    all =
        let run = order.order in
        subst (λ (c : Control). HasEnds (name_of d.items) c.rows.pairs c.attached c.reasons h o) (sym order.control)
        (lent_holders_have_it N S d.past.workers d.items run.run run.named run.by d.caller h say o holds)

    its_end : (e : EndId) → has_end e (h.ends o) ≡ true → is_its_end o d e ≡ true
    its_end e is =
        ap (list_any (is_end e)) (ends_same d o order known)
        ∙ any_whole (λ x. is_here (place_of (control_of d.past) x)) e (ends_of o (control_of d.past)) (ap (list_any (is_end e)) (sym all.ends) ∙ any_ends e (h.ends o) ∙ is)

    each : (hs : List (Held N)) → ((x : EndId) → has_end x hs ≡ true → has_end x (h.ends o) ≡ true) → All (HasBothNames (name_of d.items)) hs → All (λ x. IsOfIts o d x.end x.written x.read) hs
    each [] among named = All-nil _
    each (x ∷ hs) among named =
        let both = All-head (HasBothNames (name_of d.items)) x hs named in
        All-cons (λ y. IsOfIts o d y.end y.written y.read) x hs
        (record { its = its_end x.end (among x.end (ap (λ (b : Bool). b || has_end x.end hs) (end_self x.end))); written = both.written; read = both.read })
        (each hs (λ y is. among y (later (is_end y x.end) (has_end y hs) is)) (All-tail (HasBothNames (name_of d.items)) x hs named))
      where
        later : (a b : Bool) → b ≡ true → (a || b) ≡ true
        later true b h = refl
        later false b h = h

pub coming_ends_are_new : (G N S : Type 0) → ComingEndsAreNew G N S
coming_ends_are_new G N S d o order known e coming = is_none d o order known e coming

-- ---- halves on their way
module _ (C W : Type 0) {P N O I S G : Type 0} (K : Known P O I N) (d : Lent G N S) (o : ℕ) (order : IsOneOrder d) (known : HasSocket d (id o)) (distinct : AreDistinct K.exact (name_of d.items))
    (was now : SockCore C W N O I) (pipes behind : P) (leaves : LeavesOthers K (Some was) (Some now) pipes behind)
    (its : (k : ℕ) (p : Place N I) → place_at now.ends.places.items k ≡ Some p → IsOfIts o d p.end p.written p.read) (settles : SettlesOwn K now.ends) where
  module _ (e : EndId) (h : Halves O I) (coming : coming_to d (slot_after o (moments_of d)).0 e ≡ true) (written : name_of d.items e ≡ Some (K.out_name h.out)) (read : name_of d.items (other_end e) ≡ Some (K.in_name h.input)) where
    else_of : (x y : EndId) (n m : N) → name_of d.items x ≡ Some n → name_of d.items y ≡ Some m → x ≢ y → IsElse K n m
    else_of x y n m of_x of_y apart = λ exact same. apart (distinct exact x y n of_x (of_y ∙ ap (λ (z : N). Some z) (sym same)))

    fresh : IsNoneOfIts o d e
    fresh = coming_ends_are_new G N S d o order known e coming

    module _ (p : Place N I) (is : IsOfIts o d p.end p.written p.read) where
      other : e ≢ p.end
      other = fresh.other p.end is.its

      across : e ≢ other_end p.end
      across = fresh.across p.end is.its

      across_read : other_end e ≢ other_end p.end
      across_read same = other (sym (other_twice e) ∙ ap other_end same ∙ other_twice p.end)

      across_back : p.end ≢ other_end e
      across_back same = across (sym (other_twice e) ∙ ap other_end (sym same))

      out_written : IsElse K (K.out_name h.out) p.written
      out_written = else_of e p.end (K.out_name h.out) p.written written is.written other

      written_out : IsElse K p.written (K.out_name h.out)
      written_out = else_of p.end e p.written (K.out_name h.out) is.written written (λ same. other (sym same))

      out_read : IsElse K (K.out_name h.out) p.read
      out_read = else_of e (other_end p.end) (K.out_name h.out) p.read written is.read across

      in_read : IsElse K (K.in_name h.input) p.read
      in_read = else_of (other_end e) (other_end p.end) (K.in_name h.input) p.read read is.read across_read

      read_in : IsElse K p.read (K.in_name h.input)
      read_in = else_of (other_end p.end) (other_end e) p.read (K.in_name h.input) is.read read (λ same. across_read (sym same))

      written_in : IsElse K p.written (K.in_name h.input)
      written_in = else_of p.end (other_end e) p.written (K.in_name h.input) is.written read across_back

    joins_still : MayJoin K pipes (Some was) h → MayJoin K behind (Some now) h
    joins_still may = others_join K (Some was) (Some now) (Some was) (Some now) pipes behind h leaves (
      record {
        outs = λ k q at wrote. out_written q (its k q at);
        unsettled = settles (K.out_name h.out) (λ k q at gone. out_read q (its k q at));
        ins = λ k q at had. in_read q (its k q at);
      },
      λ k q at held. record {
        outs = λ writes. (written_out q (its k q at), out_written q (its k q at));
        ins = (read_in q (its k q at), in_read q (its k q at));
        reads = out_read q (its k q at);
        writes = λ writes. written_in q (its k q at);
      },
    ) may

pub binds_fit_still : (C W S : Type 0) {P N O I : Type 0} (K : Known P O I N) (G : Type 0) → BindsFitStill C W S K G
binds_fit_still C W S {P} {N} {O} {I} K G old new o order sends known slot distinct was now pipes behind leaves its settles binds e h coming written read =
    let came = sends.coming (slot_after o (moments_of old)).0 e (ap (λ (s : SlotId). coming_to new s.0 e) (sym slot) ∙ coming) in
    joins_still C W K new o order known (sends.distinct K.exact distinct) was now pipes behind leaves its settles e h coming written read
    (binds e h came (sym (sends.names e) ∙ written) (sym (sends.names (other_end e)) ∙ read))
