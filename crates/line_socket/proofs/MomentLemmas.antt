-- One moment more of a lent socket's caller, in the one order.
use Rattle.std.proofs.Common.{◌≡◌, ◌∙◌, ◌==◌, ℕ, Bool, true, false, List, [], ◌∷◌, ◌++◌, length, All, refl, sym, ap, subst, arith, eq-eqb, if◌then◌else◌}
use Rattle.std.proofs.lemmas.List.{append_cancel_left}
use Rattle.std.proofs.lemmas.List.Elements.{All-head, All-tail}
use Rattle.spec_control.specs.declared.entry.Item.{Item}
use Rattle.spec_control.specs.Control.{Control, begun}
use Rattle.spec_control.specs.ControlRun.{after_item, after_all, IsControlRun}
use Rattle.spec_control.specs.Held.{caller_of}
use Rattle.spec_control.specs.Has.{AreBy}
use Rattle.spec_control.specs.Moments.{Moment, items_in, left_by, moments_by, moments_from}
use Rattle.spec_control.specs.OwnAsks.{known_after}
use Rattle.socket_laws.specs.Open.{ComesTo, IsOfItem}
use Rattle.plain_desk.specs.Lent.{Lent, GrowsBy, IsOneOrder, moments_of}

module _ {N T : Type 0} where
  from_append : (xs ys : List (Item N T)) (c : Control) → moments_from c (xs ++ ys) ≡ moments_from c xs ++ moments_from (after_all xs c) ys
  from_append [] ys c = refl
  from_append (x ∷ xs) ys c = ap (λ l. let m : Moment N T = record { found = c; item = x } in m ∷ l) (from_append xs ys (after_item x c))

  by_append : (k : ℕ) (xs ys : List (Moment N T)) → moments_by k (xs ++ ys) ≡ moments_by k xs ++ moments_by k ys
  by_append k [] ys = refl
  by_append k (x ∷ xs) ys = by (by_append k xs ys) (caller_of x.item == k) where
    by : moments_by k (xs ++ ys) ≡ moments_by k xs ++ moments_by k ys → (b : Bool) → (if b then x ∷ moments_by k (xs ++ ys) else moments_by k (xs ++ ys)) ≡ (if b then x ∷ moments_by k xs else moments_by k xs) ++ moments_by k ys
    by rest true = ap (λ l. x ∷ l) rest
    by rest false = rest

  all_mine : (k : ℕ) (ys : List (Item N T)) (c : Control) → All (λ (y : Item N T). caller_of y ≡ k) ys → moments_by k (moments_from c ys) ≡ moments_from c ys
  all_mine k [] c mine = refl
  all_mine k (y ∷ ys) c mine =
      ap (λ (b : Bool). if b then record { found = c; item = y } ∷ moments_by k (moments_from (after_item y c) ys) else moments_by k (moments_from (after_item y c) ys)) (eq-eqb (caller_of y) k (All-head (λ (x : Item N T). caller_of x ≡ k) y ys mine))
      ∙ ap (λ l. let m : Moment N T = record { found = c; item = y } in m ∷ l) (all_mine k ys (after_item y c) (All-tail (λ (x : Item N T). caller_of x ≡ k) y ys mine))

  after_more : (xs ys : List (Item N T)) (c : Control) → after_all (xs ++ ys) c ≡ after_all ys (after_all xs c)
  after_more [] ys c = refl
  after_more (x ∷ xs) ys c = after_more xs ys (after_item x c)

  -- some items lead to one moment
  pub record IsOneItem (c : Control) (ys : List (Item N T)) (mo : Moment N T) : Type 0 where
    pub item : Item N T
    pub items_are : ys ≡ item ∷ []
    pub moment_is : record { found = c; item = item } ≡ mo

  one_item : (c : Control) (ys : List (Item N T)) (mo : Moment N T) → moments_from c ys ≡ mo ∷ [] → IsOneItem c ys mo
  one_item c [] mo e = absurd (let n = ap length e in omega (arith, n))
  one_item c (y ∷ []) mo e = record { item = y; items_are = refl; moment_is = head_eq e } where
    head_eq : {x z : Moment N T} → x ∷ [] ≡ z ∷ [] → x ≡ z
    head_eq f = Prim.grind arith
  one_item c (y ∷ z ∷ zs) mo e = absurd (let n = ap length e in omega (arith, n))

module _ {G N T : Type 0} (d e : Lent G N T) (grows : GrowsBy d e) (order : IsOneOrder e) (mo : Moment N T) (more : moments_of e ≡ moments_of d ++ mo ∷ []) where
  abbrev io : ℕ
  io = d.past.workers

  abbrev found : Control
  found = after_all d.items (begun io)

  moments_now : moments_of e ≡ moments_of d ++ moments_from found grows.more
  moments_now =
      ap (λ (k : ℕ). moments_by k (moments_from (begun e.past.workers) e.items)) grows.caller
      ∙ ap (λ (w : ℕ). moments_by d.caller (moments_from (begun w) e.items)) grows.workers
      ∙ ap (λ (l : List (Item N T)). moments_by d.caller (moments_from (begun io) l)) grows.items
      ∙ ap (moments_by d.caller) (from_append d.items grows.more (begun io))
      ∙ by_append d.caller (moments_from (begun io) d.items) (moments_from found grows.more)
      ∙ ap (λ l. moments_of d ++ l) (all_mine d.caller grows.more found grows.by)

  pub one : IsOneItem found grows.more mo
  one = one_item found grows.more mo (append_cancel_left (moments_of d) (moments_from found grows.more) (mo ∷ []) (sym moments_now ∙ more))

  pub items_now : e.items ≡ d.items ++ one.item ∷ []
  items_now = grows.items ∙ ap (λ l. d.items ++ l) one.items_are

  pub mine : caller_of one.item ≡ d.caller
  mine = All-head (λ (x : Item N T). caller_of x ≡ d.caller) one.item [] (subst (All (λ (x : Item N T). caller_of x ≡ d.caller)) one.items_are grows.by)

  -- the moment is where the order stands
  pub left_now : after_all e.items (begun e.past.workers) ≡ left_by mo
  left_now =
      ap (λ (w : ℕ). after_all e.items (begun w)) grows.workers ∙ ap (λ l. after_all l (begun io)) items_now
      ∙ after_more d.items (one.item ∷ []) (begun io) ∙ ap left_by one.moment_is

  pub runs_now : IsControlRun (begun io) (d.items ++ one.item ∷ [])
  runs_now = subst (λ l. IsControlRun (begun io) l) items_now (subst (λ (w : ℕ). IsControlRun (begun w) e.items) grows.workers order.order.run)

  pub callers_now : AreBy [] (begun io) (d.items ++ one.item ∷ [])
  callers_now = subst (λ l. AreBy [] (begun io) l) items_now (subst (λ (w : ℕ). AreBy [] (begun w) e.items) grows.workers order.order.by)

  -- it comes to a socket that the caller has open
  pub comes_to : (o : ℕ) → (known_after o (items_in (moments_of d))).open_socket ≡ true → IsOfItem o mo.found mo.item → ComesTo io d.items one.item o
  comes_to o is_open of_it = record {
    run = runs_now;
    callers = callers_now;
    is_open = subst (λ (k : ℕ). (known_after o (items_in (moments_by k (moments_from (begun io) d.items)))).open_socket ≡ true) (sym mine) is_open;
    of_it = subst (λ (m : Moment N T). IsOfItem o m.found m.item) (sym one.moment_is) of_it;
  }
