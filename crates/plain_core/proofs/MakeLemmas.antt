-- The control plane behind the making of a socket: the socket has the next number and no end, and its caller has it open.
use Rattle.std.specs.Prelude.{◌≡◌, ◌+◌, ◌<◌, ◌==◌, ◌++◌, ◌||◌, nat_lt, ℕ, Bool, true, false, not, cond, List, [], ◌∷◌, Option, Some, None, if◌then◌else◌, filter, refl}
use Rattle.std.proofs.Common.{arith, sym, ap, ◌∙◌, subst, length-append}
use Rattle.std.proofs.lemmas.Bool.{eq-eqb, ne_eqb}
use Rattle.std.proofs.lemmas.List.{map-append}
use Rattle.zq_base.specs.declared.ids.EndId.{EndId}
use Rattle.zq_base.specs.declared.ids.ObjId.{ObjId}
use Rattle.zq_base.specs.declared.kind.Kind.{Kind}
use Rattle.zq_base.specs.declared.options.Options.{Options}
use Rattle.spec_control.specs.declared.entry.Did.TheVariants.{Asked as DidAsk}
use Rattle.spec_control.specs.declared.entry.Item.{Item}
use Rattle.spec_control.specs.declared.entry.Item.TheVariants.{Event, Seen}
use Rattle.spec_control.specs.declared.request.Refusal.TheVariants.{Term, TooMany}
use Rattle.spec_control.specs.declared.request.Req.TheVariants.{Socket as MakeSocket}
use Rattle.spec_control.specs.declared.request.Reply.{Reply}
use Rattle.spec_control.specs.declared.request.Reply.TheVariants.{Object}
use Rattle.spec_control.specs.Rows.{obj}
use Rattle.spec_control.specs.After.{socket_row}
use Rattle.spec_control.specs.Control.{Control, begun, ends_of, id, makes, next_object, owner_of}
use Rattle.spec_control.specs.ControlRun.{after_all, Fits, IsControlRun}
use Rattle.spec_control.specs.Reply.{has_object, living_sockets, most_living_sockets, root_asked, unless}
use Rattle.spec_control.specs.Has.{made_by}
use Rattle.spec_control.specs.Held.{items_by}
use Rattle.spec_control.specs.Moments.{Moment, items_in, left_after, left_by, left_over, left_then, is_of_item, moments_by, moments_from}
use Rattle.spec_control.specs.OwnAsks.{Known, known_after}
use Rattle.control_laws.specs.Kept.{Kept}
use Rattle.control_laws.proofs.RootLemmas.{begun_kept}
use Rattle.control_laws.proofs.RunLemmas.{run_kept}
use Rattle.control_laws.proofs.SoundLemmas.{sound_of}
use Rattle.socket_laws.proofs.AsideLemmas.{known_more, state_more}
use Rattle.ctl_plane.specs.Past.{control_of}
use Rattle.desk.specs.Desk.{slot_after}
use Rattle.desk.specs.Kinds.{kind_after, kind_in, kind_over}
use Rattle.control_laws.proofs.MomentLemmas.{own_moments}
use Rattle.plain_desk.specs.Lent.{moments_of, Lent}
use Rattle.plain_desk.proofs.OrderLemmas.{own_more}
use Rattle.socket_laws.proofs.SocketLemmas.{is_in, IsIn}
use Rattle.core_laws.specs.Calls.{for_caller}
use Rattle.core_laws.proofs.SilentLemmas.{one_order_of}
use Rattle.desk.specs.Asking.{MayHave}
use Rattle.router_dealer.specs.Named.{IsIdentity}
use Rattle.zq_world.specs.MayAsk.{MayBeSaid, MayMake}
use Rattle.plain_core.specs.Leaving.{moments_at}
use Rattle.plain_core.specs.Making.{MakesOrRefuses}
use Rattle.plain_core.specs.Sound.{IsAsked}
use Rattle.plain_core.proofs.NextLemmas.{last_fits}

filter_none : {X : Type 0} (test : X → Bool) → ((x : X) → test x ≡ false) → (xs : List X) → filter test xs ≡ []
filter_none test none [] = refl
filter_none test none (x ∷ xs) = ap (λ (b : Bool). cond b (x ∷ filter test xs) (filter test xs)) (none x) ∙ filter_none test none xs

-- ---- the options
-- those that a script may ask for are such as a desk takes, with an identity that a peer may say
pub may_have : (options : Options) → MayMake options → MayHave options
may_have options may = record { some_out = may.some_out; few_out = may.few_out; some_in = may.some_in; few_in = may.few_in }

pub tells_own : (octets : List ℕ) → MayBeSaid octets → IsIdentity octets
tells_own [] may = tt
tells_own (octet ∷ octets) may = may

-- ---- the reply
number_if : (first second : Bool) (n o : ℕ) → made_by (unless first Term (unless second TooMany (Object (id n)))) ≡ Some o → o ≡ n
number_if true second n o e = Prim.grind arith
number_if false true n o e = Prim.grind arith
number_if false false n o e = Prim.grind arith

makes_if : (first second : Bool) (n : ℕ) → MakesOrRefuses (unless first Term (unless second TooMany (Object (id n))))
makes_if true second n = tt
makes_if false true n = tt
makes_if false false n = tt

-- ---- moments with one more
module _ {N T : Type 0} where
  left_last : (o : ℕ) (c : Control) (ms : List (Moment N T)) (m : Moment N T) → is_of_item o m.found m.item ≡ true → left_over o c (ms ++ m ∷ []) ≡ left_by m
  left_last o c [] m is = ap (λ (b : Bool). let r : Control = if b then left_by m else c in r) is
  left_last o c (x ∷ ms) m is = left_last o (left_then o x c) ms m is

  kind_last : (o : ℕ) (k : Option Kind) (xs : List (Item N T)) (item : Item N T) → kind_over o k (xs ++ item ∷ []) ≡ kind_over o (kind_over o k xs) (item ∷ [])
  kind_last o k [] item = refl
  kind_last o k (Event entry ∷ xs) item = kind_last o (kind_in o entry.did k) xs item
  kind_last o k (Seen sight ∷ xs) item = kind_last o k xs item

module _ {G N T : Type 0} (k : ℕ) (kind : Kind) (options : Options) (reply : Reply) (old new : Lent G N T) (asked : IsAsked k (MakeSocket kind options) reply old new) where
  abbrev found : Control
  found = after_all old.items (begun 1)

  abbrev item : Item N T
  item = Event (record { by = k; did = DidAsk (MakeSocket kind options) reply asked.answered })

  pub runs : IsControlRun (begun 1) old.items × Fits (after_all old.items (begun 1)) (DidAsk (MakeSocket kind options) reply asked.answered)
  runs =
      last_fits old.items item (begun 1)
      (subst (λ (n : ℕ). IsControlRun (begun n) (old.items ++ item ∷ [])) asked.one
      (subst (λ (xs : List (Item N T)). IsControlRun (begun new.past.workers) xs) asked.items asked.order.order.run))

  pub makes_or_refuses : MakesOrRefuses reply
  makes_or_refuses = subst MakesOrRefuses (sym runs.1.may.1) (makes_if (root_asked found) (not (nat_lt (living_sockets found) most_living_sockets) || not (has_object found)) (next_object found))

-- ---- behind the making
module _ {G N T : Type 0} (k : ℕ) (kind : Kind) (options : Options) (oid : ObjId) (old new : Lent G N T) (asked : IsAsked k (MakeSocket kind options) (Object oid) old new) where
  abbrev c : Control
  c = after_all old.items (begun 1)

  abbrev d : Control
  d = record (makes (socket_row kind options c) c) { slots = c.slots + 1 }

  abbrev made : Item N T
  made = Event (record { by = k; did = DidAsk (MakeSocket kind options) (Object oid) asked.answered })

  abbrev m : Moment N T
  m = record { found = c; item = made }

  run_so : IsControlRun (begun 1) old.items × Fits c (DidAsk (MakeSocket kind options) (Object oid) asked.answered)
  run_so = runs k kind options (Object oid) old new asked

  kept : Kept c
  kept = run_kept old.items (begun 1) (begun_kept 1) run_so.0

  pub next : oid.0 ≡ next_object (after_all old.items (begun 1))
  next = number_if (root_asked c) (not (nat_lt (living_sockets c) most_living_sockets) || not (has_object c)) (next_object c) oid.0 (sym (ap made_by run_so.1.may.1))

  items_now : after_all new.items (begun 1) ≡ d
  items_now = ap (λ (xs : List (Item N T)). after_all xs (begun 1)) asked.items ∙ state_more old.items made (begun 1)

  control_now : control_of new.past ≡ d
  control_now = asked.order.control ∙ ap (λ (n : ℕ). after_all new.items (begun n)) asked.one ∙ items_now

  pub moments_now : moments_of (for_caller k new) ≡ moments_at k new
  moments_now = ap (λ (n : ℕ). moments_by k (moments_from (begun n) new.items)) asked.one

  own : moments_at k new ≡ moments_at k old ++ m ∷ []
  own = ap (λ (xs : List (Item N T)). moments_by k (moments_from (begun 1) xs)) asked.items ∙ own_more k 1 old.items made refl

  items_own : items_in (moments_at k new) ≡ items_in (moments_at k old) ++ made ∷ []
  items_own = ap items_in own ∙ map-append (λ (x : Moment N T). x.item) (moments_at k old) (m ∷ [])

  it_is : (oid.0 == oid.0) ≡ true
  it_is = eq-eqb oid.0 oid.0 refl

  -- its caller has it open
  pub opens : (known_after oid.0 (items_in (moments_of (for_caller k new)))).open_socket ≡ true
  opens =
      ap (λ (ms : List (Moment N T)). (known_after oid.0 (items_in ms)).open_socket) moments_now
      ∙ ap (λ (xs : List (Item N T)). (known_after oid.0 xs).open_socket) items_own
      ∙ ap (λ (kn : Known). kn.open_socket) (known_more oid.0 _ (items_in (moments_at k old)) (made ∷ []))
      ∙ ap (λ (b : Bool). let r : Known = if b then record (known_after oid.0 (items_in (moments_at k old))) { open_socket = true } else known_after oid.0 (items_in (moments_at k old)) in r.open_socket) it_is

  pub in_order : IsIn (for_caller k new) (one_order_of k new asked.order) oid.0
  in_order = is_in (for_caller k new) (one_order_of k new asked.order) oid.0 opens

  pub kind_known : kind_after oid.0 (items_by k new.items) ≡ Some kind
  kind_known =
      ap (kind_after oid.0) (sym (own_moments k new.items (begun 1)) ∙ items_own)
      ∙ kind_last oid.0 None (items_in (moments_at k old)) made
      ∙ ap (λ (b : Bool). let r : Option Kind = if b then Some kind else kind_over oid.0 None (items_in (moments_at k old)) in r) it_is

  -- the control plane as it left it
  pub left_now : left_after oid.0 (moments_of (for_caller k new)) ≡ after_all new.items (begun 1)
  left_now = ap (left_after oid.0) (moments_now ∙ own) ∙ left_last oid.0 (begun 0) (moments_at k old) m it_is ∙ sym items_now

  -- ends are of objects that there were
  others_own : (e : EndId) → owner_of d e < oid.0
  others_own e = subst (λ (n : ℕ). owner_of c e < n) (sym next) ((sound_of c kept).ends e.pair.0 e.a)

  no_ends : ends_of oid.0 d ≡ []
  no_ends = filter_none (λ (e : EndId). owner_of d e == oid.0) (λ e. ne_eqb (owner_of d e) oid.0 (λ same. let less = others_own e in omega (arith, less, same))) d.attached

  pub has_none : ends_of oid.0 (after_all new.items (begun 1)) ≡ []
  has_none = ap (ends_of oid.0) items_now ∙ no_ends

  pub owners_before : (e : EndId) → owner_of (control_of new.past) e < oid.0
  owners_before e = subst (λ (x : Control). owner_of x e < oid.0) (sym control_now) (others_own e)

  pub is_new : oid.0 < next_object (after_all old.items (begun 1)) → ⊥
  is_new lt = omega (arith, lt, next)

  pub is_made : oid.0 < next_object (after_all new.items (begun 1))
  is_made = subst (λ (x : Control). oid.0 < next_object x) (sym items_now) (let more = length-append c.rows.objects (socket_row kind options c ∷ []) in omega (arith, more, next))

  -- its mailbox
  pub box_now : (slot_after oid.0 (moments_of (for_caller k new))).0 ≡ 1 + oid.0
  box_now = in_order.slot ∙ ap (λ (n : ℕ). n + oid.0) asked.one

  pub slot_now : (obj (after_all new.items (begun 1)).rows oid.0).slot ≡ 1 + oid.0
  slot_now = sym (ap (λ (x : Control). (obj x.rows oid.0).slot) left_now) ∙ box_now
