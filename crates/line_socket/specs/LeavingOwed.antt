-- What acts of a lent socket leave standing, one behind the other (own choice).
use Rattle.std.proofs.Common.{◌≡◌, ◌<◌, ◌∙◌, ◌==◌, ◌++◌, ℕ, true, false, Bool, List, [], ◌∷◌, Option, Some, None, All, append-nil, append_assoc, refl, sym, ap, subst, true≢false, arith}
use Rattle.std.specs.Prelude.{flat_map}
use Rattle.std.proofs.lemmas.Grind.{flat_map-append}
use Rattle.std.proofs.lemmas.List.Elements.{All-nil, All-append, filter_map-append}
use Rattle.zq_base.specs.Ends.{other_end}
use Rattle.zq_base.specs.declared.ids.EndId.{EndId}
use Rattle.spec_pattern.specs.PipeStep.{PipeStep}
use Rattle.spec_control.specs.declared.end.EndState.TheVariants.{Gone}
use Rattle.spec_control.specs.declared.entry.Item.{Item}
use Rattle.spec_control.specs.Place.{At}
use Rattle.spec_control.specs.Control.{Control, begun, next_pair, place_of}
use Rattle.spec_control.specs.ControlRun.{IsControlRun, after_all, after_item}
use Rattle.spec_control.specs.Names.{name_in, name_of, named_in}
use Rattle.spec_control.specs.Moments.{Moment}
use Rattle.msg_pipe.specs.Known.{Known}
use Rattle.ctl_moves.proofs.HeldLemmas.{other_twice}
use Rattle.ctl_plane.specs.Past.{control_of}
use Rattle.spec_run.specs.Act.{Act, moments_in, pipe_step_of, steps_in}
use Rattle.spec_run.specs.OwnedRun.{AreCountedBy}
use Rattle.socket_laws.specs.Open.{IsOfItem}
use Rattle.line_calls.proofs.StepLemmas.{moments_more}
use Rattle.sock_calls.specs.Calls.{owner_of}
use Rattle.plain_desk.specs.Lent.{GrowsBy, IsOneOrder, Lent}
use Rattle.plain_desk.proofs.AsideLemmas.{name_stays}
use Rattle.socket_laws.specs.Sides.{AreAtEnds}
use Rattle.socket_laws.proofs.SideLemmas.{sides_stand_on}
use Rattle.socket_laws.specs.Places.{is_end_of}
use Rattle.socket_laws.proofs.PlaceLemmas.{gone_stay, its_numbered, its_stay, led_on}
use Rattle.socket_laws.specs.Calling.{IsExact}
use Rattle.line_socket.specs.Owned.{LentParts}
use Rattle.line_socket.specs.Leaving.{IsNoneItSettled, IsNoneItWrites, IsNoneItReads, LeavesPipes, LeavesStanding, NamesStandIn, PastStandsIn, TellsRest}

none_some : {X : Type 0} {x : X} → None ≡ Some x → ⊥
none_some e = Prim.grind arith

some_is : {X : Type 0} {x y : X} → Some x ≡ Some y → x ≡ y
some_is e = Prim.grind arith

-- ---- the order goes on

pub run_behind : {N S : Type 0} (xs ys : List (Item N S)) (c : Control) → IsControlRun c (xs ++ ys) → IsControlRun (after_all xs c) ys
run_behind [] ys c run = run
run_behind (x ∷ xs) ys c run = run_behind xs ys (after_item x c) run.1

-- a name stays behind further items
pub names_on : {N S : Type 0} (xs ys zs : List (Item N S)) → zs ≡ xs ++ ys → (e : EndId) (n : N) → name_of xs e ≡ Some n → name_of zs e ≡ Some n
names_on xs ys zs grown e n is =
    ap (λ (l : List (Item _ _)). name_of l e) grown
    ∙ ap (name_in e) (flat_map-append named_in xs ys)
    ∙ name_stays e (flat_map named_in xs) (flat_map named_in ys) n is

module _ {G N T : Type 0} (d e : Lent G N T) (before : IsOneOrder d) (behind : IsOneOrder e) (grows : GrowsBy d e) where
  abbrev io : ℕ
  io = d.past.workers

  -- the control state that the new items found
  abbrev pub found_by : Control
  found_by = after_all d.items (begun d.past.workers)

  pub run_before : IsControlRun (begun io) d.items
  run_before = (let order = before.order in order.run)

  pub run_more : IsControlRun found_by grows.more
  run_more =
      let order = behind.order in
      run_behind d.items grows.more (begun io)
      (subst (λ (n : ℕ). IsControlRun (begun n) (d.items ++ grows.more)) grows.workers (subst (λ (l : List (Item N T)). IsControlRun (begun e.past.workers) l) grows.items order.run))

  pub led_more : control_of e.past ≡ after_all grows.more found_by
  led_more =
      behind.control ∙ ap (λ (n : ℕ). after_all e.items (begun n)) grows.workers
      ∙ ap (λ (xs : List (Item N T)). after_all xs (begun io)) grows.items
      ∙ led_on d.items grows.more (begun io)

  -- pipes keep their names
  pub named_on : (x : EndId) (m : N) → name_of d.items x ≡ Some m → name_of e.items x ≡ Some m
  named_on x m is = names_on d.items grows.more e.items grows.items x m is

  -- an end of an object stays one
  pub its_on : (o : ℕ) (x : EndId) → is_end_of o (control_of d.past) x ≡ true → is_end_of o (control_of e.past) x ≡ true
  its_on o x its =
      subst (λ (c : Control). is_end_of o c x ≡ true) (sym led_more)
      (its_stay io grows.more d.items run_before run_more o x (subst (λ (c : Control). is_end_of o c x ≡ true) before.control its))

  -- one that is gone stays so
  pub gone_on : (o : ℕ) (x : EndId) → is_end_of o (control_of d.past) x ≡ true → place_of (control_of d.past) x ≡ At Gone → place_of (control_of e.past) x ≡ At Gone
  gone_on o x its gone =
      ap (λ (c : Control). place_of c x) led_more
      ∙ gone_stay io grows.more d.items run_before run_more x (its_numbered io d.items run_before o x (subst (λ (c : Control). is_end_of o c x ≡ true) before.control its))
      (ap (λ (c : Control). place_of c x) (sym before.control) ∙ gone)

  -- and so does any of a pair that has its number
  pub gone_after : (x : EndId) → x.pair.0 < next_pair (control_of d.past) → place_of (control_of d.past) x ≡ At Gone → place_of (control_of e.past) x ≡ At Gone
  gone_after x within gone =
      ap (λ (c : Control). place_of c x) led_more
      ∙ gone_stay io grows.more d.items run_before run_more x (subst (λ (c : Control). x.pair.0 < next_pair c) before.control within)
      (ap (λ (c : Control). place_of c x) (sym before.control) ∙ gone)

  -- steps at ends of an object stay there
  pub at_ends_on : (o : ℕ) (acts : List (Act N T)) → AreAtEnds (control_of d.past) (λ i. i == o) acts → AreAtEnds (control_of e.past) (λ i. i == o) acts
  at_ends_on o acts at =
      let sides = sides_stand_on N T in
      subst (λ (c : Control). AreAtEnds c (λ i. i == o) acts) (sym led_more)
      (sides.stay io d.items grows.more run_before run_more (λ i. i == o) acts (subst (λ (c : Control). AreAtEnds c (λ i. i == o) acts) before.control at))

  -- ---- what is no pipe of its ends later was none before

  module _ {S O I : Type 0} (K : Known S O I N) (o : ℕ) (n : N) where
    pub writes_on : IsNoneItWrites K o e n → IsNoneItWrites K o d n
    writes_on none x w its named = none x w (its_on o x its) (named_on x w named)

    pub reads_on : IsNoneItReads K o e n → IsNoneItReads K o d n
    reads_on none x r its named = none x r (its_on o x its) (named_on (other_end x) r named)

    pub settled_on : IsNoneItSettled K o e n (control_of e.past) → IsNoneItSettled K o d n (control_of d.past)
    settled_on none x r its gone named = none x r (its_on o x its) (gone_on o x its gone) (named_on (other_end x) r named)

-- ---- a pipe that none of its ends writes, nor one read that is gone

module _ {S O I N : Type 0} (K : Known S O I N) {G T : Type 0} (o : ℕ) (e : Lent G N T) (pipes : S) (named : NamesStandIn K e pipes) (y : EndId) (not_its : is_end_of o (control_of e.past) y ≡ false)
    (reader : place_of (control_of e.past) (other_end y) ≡ At Gone → ⊥) (h : O) (is : name_of e.items y ≡ Some (K.out_name h)) where
  pub no_writer : IsNoneItWrites K o e (K.out_name h)
  no_writer z w its writes ex same =
      let is_y : z ≡ y = named.distinct ex z y w writes (is ∙ ap (λ (m : N). Some m) same) in
      true≢false (sym its ∙ ap (is_end_of o (control_of e.past)) is_y ∙ not_its)

  pub no_reader : IsNoneItSettled K o e (K.out_name h) (control_of e.past)
  no_reader z r its gone reads ex same =
      let is_y : other_end z ≡ y = named.distinct ex (other_end z) y r reads (is ∙ ap (λ (m : N). Some m) same) in
      reader (ap (place_of (control_of e.past)) (sym (ap other_end is_y) ∙ other_twice z) ∙ gone)

-- ---- of pipes

module _ {S O I N : Type 0} (K : Known S O I N) {G T : Type 0} where
  pub pipes_none : (o : ℕ) (d : Lent G N T) (now : Control) (pipes : S) → LeavesPipes K o d now pipes pipes
  pipes_none o d now pipes = record { there = λ n is. is; outs = λ h is writes settled. refl; ins = λ h is reads. refl }

  module _ (o : ℕ) (c d e : Lent G N T) (order : IsOneOrder d) (order_now : IsOneOrder e) (grows : GrowsBy d e) (a b x : S) where
    pub pipes_more : LeavesPipes K o d (control_of d.past) a b → LeavesPipes K o e (control_of e.past) b x → LeavesPipes K o e (control_of e.past) a x
    pipes_more first then = record {
      there = λ n is. then.there n (first.there n is);
      outs = λ h is writes settled.
          then.outs h (first.there (K.out_name h) is) writes settled
          ∙ first.outs h is (writes_on d e order order_now grows K o (K.out_name h) writes) (settled_on d e order order_now grows K o (K.out_name h) settled);
      ins = λ h is reads. then.ins h (first.there (K.in_name h) is) reads ∙ first.ins h is (reads_on d e order order_now grows K o (K.in_name h) reads);
    }

    -- a pipe that got its name in the first of them, and is none of its ends', is left by the others
    module _ (exact : IsExact K) (named : NamesStandIn K d b) (named_now : NamesStandIn K e x) (first : TellsRest K o c d a b) (then : TellsRest K o d e b x) (names : NamesStandIn K c a) (y : EndId)
        (none : name_of c.items y ≡ None) (not_its : is_end_of o (control_of e.past) y ≡ false) (reader : place_of (control_of e.past) (other_end y) ≡ At Gone → ⊥) (h : O) (is : name_of e.items y ≡ Some (K.out_name h)) where
      was_none : is_end_of o (control_of d.past) y ≡ false
      was_none = by (is_end_of o (control_of d.past) y) refl
        where
          by : (t : Bool) → is_end_of o (control_of d.past) y ≡ t → is_end_of o (control_of d.past) y ≡ false
          by false so = so
          by true so = absurd (true≢false (sym (its_on d e order order_now grows o y so) ∙ not_its))

      by_name : (m : Option N) → name_of d.items y ≡ m → (K.writing x h).sealed ≡ false
      by_name None was = then.unsealed exact named y was not_its reader h is
      by_name (Some m) was =
          let same : m ≡ K.out_name h = some_is (sym (names_on d.items grows.more e.items grows.items y m was) ∙ is) in
          let was_so : name_of d.items y ≡ Some (K.out_name h) = was ∙ ap (λ (z : N). Some z) same in
          let pipes = then.pipes in
          ap (λ w. w.sealed) (pipes.outs h (named.there y (K.out_name h) was_so) (no_writer K o e x named_now y not_its reader h is) (no_reader K o e x named_now y not_its reader h is))
          ∙ first.unsealed exact names y none was_none (λ gone. reader (gone_after d e order order_now grows (other_end y) (named.made y (K.out_name h) was_so) gone)) h was_so

      pub unsealed_more : (K.writing x h).sealed ≡ false
      unsealed_more = by_name (name_of d.items y) refl

-- ---- all of it

module _ {W N O I S T : Type 0} (K : Known S O I N) where
  pub standing_none : (s : LentParts W N O I S T) → LeavesStanding K s [] s
  standing_none s = record {
    order = λ is. is;
    owner = refl;
    each = All-nil _;
    there = λ n is. is;
    named = λ exact names. names;
    at_ends = λ is. tt;
    past = λ exact past stands. subst (λ (l : List PipeStep). PastStandsIn K s.desk s.pipes l) (sym (append-nil past)) stands;
    counted = λ exact past stands counted. subst (λ (l : List PipeStep). AreCountedBy l (control_of s.desk.past).settlements) (sym (append-nil past)) counted;
    rest = λ order. record {
      pipes = pipes_none K (owner_of s.socket) s.desk (control_of s.desk.past) s.pipes;
      unsealed = λ exact names e none its reader h some. absurd (none_some (sym none ∙ some));
    };
  }

  module _ (s t u : LentParts W N O I S T) (before after : List (Act N T)) (grows : GrowsBy t.desk u.desk)
      (a : LeavesStanding K s before t) (b : LeavesStanding K t after u) where
    abbrev o : ℕ
    o = owner_of s.socket

    abbrev IsOn : Moment N T → Type 0
    IsOn m = IsOfItem o m.found m.item

    steps_more : (past : List PipeStep) → (past ++ steps_in before) ++ steps_in after ≡ past ++ steps_in (before ++ after)
    steps_more past = append_assoc past (steps_in before) (steps_in after) ∙ ap (λ (l : List PipeStep). past ++ l) (sym (filter_map-append pipe_step_of before after))

    each_on : All IsOn (moments_in (before ++ after))
    each_on =
        subst (λ (l : List (Moment N T)). All IsOn l) (sym (moments_more before after))
        (All-append IsOn (moments_in before) (moments_in after) a.each (subst (λ (k : ℕ). All (λ (m : Moment N T). IsOfItem k m.found m.item) (moments_in after)) a.owner b.each))

    then_rest : IsOneOrder t.desk → TellsRest K o t.desk u.desk t.pipes u.pipes
    then_rest order = subst (λ (k : ℕ). TellsRest K k t.desk u.desk t.pipes u.pipes) a.owner (b.rest order)

    pub standing_more : LeavesStanding K s (before ++ after) u
    standing_more = record {
      order = λ is. b.order (a.order is);
      owner = b.owner ∙ a.owner;
      each = each_on;
      there = λ n is. b.there n (a.there n is);
      named = λ exact names. b.named exact (a.named exact names);
      at_ends = λ is.
          let sides = sides_stand_on N T in
          sides.both (control_of u.desk.past) (λ i. i == o) before after
          (at_ends_on t.desk u.desk (a.order is) (b.order (a.order is)) grows o before (a.at_ends is))
          (subst (λ (k : ℕ). AreAtEnds (control_of u.desk.past) (λ i. i == k) after) a.owner (b.at_ends (a.order is)));
      past = λ exact past stands. subst (λ (l : List PipeStep). PastStandsIn K u.desk u.pipes l) (steps_more past) (b.past exact (past ++ steps_in before) (a.past exact past stands));
      counted = λ exact past stands counted. subst (λ (l : List PipeStep). AreCountedBy l (control_of u.desk.past).settlements) (steps_more past)
          (b.counted exact (past ++ steps_in before) (a.past exact past stands) (a.counted exact past stands counted));
      rest = λ order.
          let first = a.rest order in
          let then = then_rest (a.order order) in
          record {
            pipes = pipes_more K o s.desk t.desk u.desk (a.order order) (b.order (a.order order)) grows s.pipes t.pipes u.pipes first.pipes then.pipes;
            unsealed = λ exact names e none its reader h is_named.
                let now = a.named exact.exact names in
                unsealed_more K o s.desk t.desk u.desk (a.order order) (b.order (a.order order)) grows s.pipes t.pipes u.pipes exact now (b.named exact.exact now) first then names e none its reader h is_named;
          };
    }
