-- What the Plug of a listener or a session needs, and what it does.
use Rattle.std.specs.Prelude.{◌≡◌, ◌<◌, ◌≤◌, ◌++◌, ◌∷◌, [], Bool, true, false, List, Option, Some, None, All, map, if◌then◌else◌, unwrap_or, refl}
use Rattle.std.specs.Option.{ForSome}
use Rattle.std.proofs.Common.{arith, sym, ap, ◌∙◌, subst}
use Rattle.std.proofs.lemmas.List.{append-nil}
use Rattle.std.proofs.lemmas.List.Elements.{All-cons, All-nil}
use Rattle.zq_base.specs.declared.attached.Attached.{Attached}
use Rattle.zq_base.specs.declared.attached.Attached.TheVariants.{Yes}
use Rattle.zq_base.specs.declared.endpoint.Address.{Address}
use Rattle.zq_base.specs.declared.ids.EndId.{EndId}
use Rattle.zq_base.specs.declared.ids.ObjId.{ObjId}
use Rattle.zq_base.specs.declared.kind.Kind.{Kind}
use Rattle.zq_base.specs.declared.options.Options.{Options}
use Rattle.mailbox.specs.Mail.{Mail}
use Rattle.spec_control.specs.declared.entry.Answered.{Answered}
use Rattle.spec_control.specs.declared.entry.Joining.{Joining}
use Rattle.spec_control.specs.declared.letter.Word.{Word}
use Rattle.spec_control.specs.declared.letter.Word.TheVariants.{Plug}
use Rattle.spec_control.specs.declared.end.EndState.TheVariants.{Active}
use Rattle.spec_control.specs.Place.{At, Place}
use Rattle.spec_control.specs.Row.{Row}
use Rattle.spec_control.specs.Rows.{obj}
use Rattle.spec_control.specs.Stage.{has_ended}
use Rattle.spec_control.specs.Control.{Control, greet, place_of}
use Rattle.spec_control.specs.After.{answers_in, kind_answer, processed}
use Rattle.spec_control.specs.ControlRun.{Joins, MayAnswerAll, word_joins}
use Rattle.control_laws.proofs.AskLemmas.{end_self}
use Rattle.control_laws.proofs.AttachLemmas.{greets}
use Rattle.control_laws.specs.Room.{to_come}
use Rattle.desk.specs.declared.halves.Halves.{Halves}
use Rattle.desk.specs.declared.halves.NamedHalves.{NamedHalves}
use Rattle.desk.specs.declared.load.Load.{Load}
use Rattle.desk.specs.declared.load.Load.TheVariants.{Plug as IsPlug}
use Rattle.desk.specs.declared.notice.Notice.TheVariants as notice
use Rattle.desk.specs.Heard.{heard_by, kind_by, plug_by}
use Rattle.desk.specs.Holding.{HasNowhere, HearsMore, Holding}
use Rattle.desk.specs.Joins.{KeepsObjects, come_by}
use Rattle.desk.specs.Load.{AreHalvesOf, IsNamed}
use Rattle.desk.specs.Turns.{TurnsBy, turn_at}
use Rattle.own_tree.specs.Changes.{as_plugged, change}
use Rattle.ctl_state.specs.declared.belongings.Belongings.{Belongings}
use Rattle.ctl_state.specs.declared.command.Command.{Command}
use Rattle.ctl_state.specs.declared.state.State.{State}
use Rattle.ctl_state.specs.Boxes.{mail_at}
use Rattle.ctl_state.specs.Listed.{with_last}
use Rattle.ctl_state.specs.Lists.{belongings_at, with_ends}
use Rattle.ctl_state.specs.Objects.{detail_at}
use Rattle.ctl_state.specs.Parts.{on_tree}
use Rattle.ctl_state.specs.Stands.{Stands}
use Rattle.ctl_moves.specs.Turning.{Leads, PutsLoaded, TurnsOnce, turn_of}
use Rattle.ctl_moves.specs.Attaching.{BindsEnd, KindFits, MayBind}
use Rattle.ctl_moves.specs.Plugging.{BringsAddress, BringsBoth, HasTakenIn, JoinsWith, MayPlug, TakesIn, end_plugged, plugged, taken_in}
use Rattle.ctl_moves.specs.Processing.{HasDone, HasJoined, IsProcessed, JoinsFor}
use Rattle.ctl_moves.proofs.MailLemmas.{puts_not}
use Rattle.ctl_moves.proofs.TurnedLemmas.{turns_on}
use Rattle.ctl_moves.proofs.ToldLemmas.{told_bound}
use Rattle.ctl_moves.proofs.BoundLemmas.{elsewhere, not_there, now_active}
use Rattle.ctl_moves.proofs.BindingLemmas.{greet_else, joins_by_name, place_taken}
use Rattle.ctl_moves.proofs.TakenInLemmas.{endless, endless_has, listener_has, listener_turned, plugged_row, taken_objects}

-- ---- what a load is
module _ {N O I : Type 0} where
  pub address_brought : (load : Option (Load N O I)) (address : Address) → load ≡ Some (IsPlug address None) → BringsAddress load
  address_brought load address is = subst (λ (l : Option (Load N O I)). BringsAddress l) (sym is) tt

  pub both_brought : (load : Option (Load N O I)) (address : Address) (half : NamedHalves N O I) → load ≡ Some (IsPlug address (Some half)) → BringsBoth load
  both_brought load address half is = subst (λ (l : Option (Load N O I)). BringsBoth l) (sym is) tt

  same_half : (load : Option (Load N O I)) (a b : Address) (x y : NamedHalves N O I) → load ≡ Some (IsPlug a (Some x)) → load ≡ Some (IsPlug b (Some y)) → x ≡ y
  same_half load a b x y is_a is_b = one (sym is_a ∙ is_b)
    where
      one : {a b : Address} {x y : NamedHalves N O I} → ◌≡◌ {A = Option (Load N O I)} (Some (IsPlug a (Some x))) (Some (IsPlug b (Some y))) → x ≡ y
      one f = Prim.grind arith

-- ---- what its holder is told
-- the kind of its socket, and its own options
pub plug_heard : {L N : Type 0} (s : State L) (c : Control) (o : ObjId) (h k : Holding N) (kind : Kind) (options : Options) → Stands s c → kind ≡ kind_by c.rows o.0 → options ≡ (detail_at s.objects o.0).options →
    HearsMore (notice.Plug o kind options ∷ []) h k → HearsMore (plug_by o c.rows) h k
plug_heard s c o h k kind options stands kind_is options_are told =
    told
    ∙ ap (λ (x : Kind). h.heard ++ notice.Plug o x options ∷ []) kind_is
    ∙ ap (λ (x : Options). h.heard ++ notice.Plug o (kind_by c.rows o.0) x ∷ []) (options_are ∙ sym (ap (λ (x : Row). x.options) (stands.objects.each o.0)))

-- ---- a session comes with its end
module _ {N O I : Type 0} (out_name : O → N) (in_name : I → N) (s : State (Load N O I)) (h : Holding N) (at : ObjId) (e : EndId) (load : Option (Load N O I)) (w : MayPlug out_name in_name s h at.0 (Some e) load)
    (address : Address) (half : NamedHalves N O I) (is : load ≡ Some (IsPlug address (Some half))) where
  pub half_are : AreHalvesOf out_name in_name w.names e half
  half_are = subst (λ (x : NamedHalves N O I). AreHalvesOf out_name in_name w.names e x) (same_half load w.comes.address address w.comes.half half w.comes.brings is) w.comes.are

  -- nobody has its end before
  end_new : HasNowhere e h
  end_new i holds = not_there w.control e w.comes.way.within w.comes.way.fresh at.0 w.comes.way.owner w.names h i (w.has i holds)

  pub comes_new : ForSome {T = EndId × Halves O I} (Some (e, half.halves)) (λ x. HasNowhere x.0 h)
  comes_new x is = subst (λ (d : EndId). HasNowhere d h) (ap (λ (o : Option (EndId × Halves O I)). (unwrap_or o (e, half.halves)).0) is) end_new

  module _ (mid : State (Load N O I)) (k : Holding N) (stands : Stands mid (plugged at.0 w.control)) (next : mid ≡ on_tree (change as_plugged at) s) (taken : HasTakenIn out_name in_name at.0 (Some (e, half.halves)) h k) where
    pub boxes : mid.boxes ≡ s.boxes
    boxes = ap (λ (x : State (Load N O I)). x.boxes) next

    pub lists : mid.objects.lists ≡ s.objects.lists
    lists = ap (λ (x : State (Load N O I)). x.objects.lists) next

    -- the end joins it as by a bind
    abbrev pub may_join : MayBind out_name in_name mid (endless at.0 h k) at.0 e half.halves
    may_join = record {
      control = plugged at.0 w.control;
      names = w.names;
      stands = stands;
      has = endless_has at.0 h k w.names w.control w.comes.plugs _ taken.held w.has;
      binds = record {
        way = record {
          owner = w.comes.way.owner;
          away = w.comes.way.away;
          within = w.comes.way.within;
          fresh = w.comes.way.fresh;
          few = w.comes.way.few;
          place = subst (λ (ls : List Belongings). 0 < (belongings_at ls at.0).ends.spare) (sym lists) w.comes.way.place;
        };
        lent = taken.held.here;
        lives = ap (λ (o : Row). has_ended o.stage) (plugged_row w.control at.0 h w.comes.plugs) ∙ w.comes.plugs.lives;
        room = λ m. subst (λ (b : List (Mail (Command (Load N O I)))). to_come (end_plugged at.0 e w.control) m ≤ (mail_at b m).spare) (sym boxes) (w.comes.room m);
        kind = subst (λ (x : Option Kind). KindFits (obj (plugged at.0 w.control).rows at.0) x) (sym taken.held.no_kind) tt;
      };
      written = half_are.written ∙ ap (λ (n : N). Some n) (sym half_are.out);
      read = half_are.read ∙ ap (λ (n : N). Some n) (sym half_are.input);
    }

    pub session_taken : (t u : State (Load N O I)) (l : Holding N) (joined : List (Joining N)) → BindsEnd w.names (plugged at.0 w.control) at.0 e Yes mid t (endless at.0 h k) k →
        Leads out_name in_name w.names (turn_of e (end_plugged at.0 e w.control) (taken_in at.0 (Some e) w.control)) (taken_in at.0 (Some e) w.control) t u k l →
        joined ≡ record { end = e; peer = []; written = half.written; read = half.read; answer = Yes; met = false } ∷ [] → HearsMore (plug_by at w.control.rows) h k → TakesIn out_name in_name w.names w.control at (Some e) joined s u h l
    session_taken t u l joined b leads one heard = record {
      joins = record { written = half.written; read = half.read; one = one; writes = half_are.written; reads = half_are.read };
      stands = leads.stands;
      has = leads.has;
      puts = subst (λ (bs : List (Mail (Command (Load N O I)))). PutsLoaded out_name in_name w.names bs u.boxes) (b.boxes ∙ boxes) leads.puts;
      places = λ i.
          (let now = ap (λ (ls : List Belongings). (belongings_at ls i).ends.spare) (leads.lists ∙ b.lists ∙ ap (with_ends (with_last e) at.0) lists) in
          let place = place_taken out_name in_name s.objects.lists at.0 e w.comes.way.place i in
          omega (arith, now, place));
      turned = λ once. told_bound w.control last e h l (greets true Yes e (end_plugged at.0 e w.control)).leaves.attached stay w.comes.way.away turned;
      came = leads.joined ∙ taken.came ∙ ap (λ (js : List (Joining N)). h.joined ++ js) (joins_by_name out_name in_name w.names e half [] Yes half_are ∙ sym one);
      heard = leads.heard ∙ heard;
      objects = taken_objects w.control last at.0 h k l w.comes.plugs _ taken.held (greets true Yes e (end_plugged at.0 e w.control)).leaves.objects leads.holds leads.kinds;
    }
      where
        last : Control
        last = taken_in at.0 (Some e) w.control

        stay : All (λ x. place_of (taken_in at.0 (Some e) w.control) x ≡ place_of w.control x) w.control.attached
        stay i x lt = greet_else Yes e _ (end_plugged at.0 e w.control) (w.comes.way.fresh i x lt) ∙ elsewhere (plugged at.0 w.control) e w.comes.way.within _ (w.comes.way.fresh i x lt)

        turned : TurnsBy (turn_at e (At Active) (place_of (taken_in at.0 (Some e) w.control) e)) h l
        turned =
            turns_on [] _ h k l (record { turns = taken.begins.turns ∙ sym (append-nil h.turns); sealed = taken.begins.sealed ∙ sym (append-nil h.sealed) })
            (subst (λ (p : Place). TurnsBy (turn_at e p (place_of (taken_in at.0 (Some e) w.control) e)) k l) (now_active (plugged at.0 w.control) e w.comes.way.within) leads.turned)

-- ---- a listener comes alone
module _ {N O I : Type 0} (out_name : O → N) (in_name : I → N) where
  pub listener_taken : (s : State (Load N O I)) (h : Holding N) (at : ObjId) (load : Option (Load N O I)) (w : MayPlug out_name in_name s h at.0 None load) (t : State (Load N O I)) (k : Holding N) (joined : List (Joining N)) →
      joined ≡ [] → Stands t (plugged at.0 w.control) → t ≡ on_tree (change as_plugged at) s → HasTakenIn out_name in_name at.0 None h k → HearsMore (plug_by at w.control.rows) h k → TakesIn out_name in_name w.names w.control at None joined s t h k
  listener_taken s h at load w t k joined none stands next taken heard = record {
    joins = none;
    stands = stands;
    has = listener_has out_name in_name at.0 h k w.control w.names w.comes.plugs w.has taken;
    puts = puts_not out_name in_name w.names s.boxes t.boxes (ap (λ (x : State (Load N O I)). x.boxes) next);
    places = λ i. (let same = ap (λ (x : State (Load N O I)). (belongings_at x.objects.lists i).ends.spare) next in omega (arith, same));
    turned = λ once. listener_turned out_name in_name at.0 h k w.control w.names w.comes.plugs w.has taken;
    came = taken.came ∙ ap (λ (js : List (Joining N)). h.joined ++ js) (sym none);
    heard = heard;
    objects = taken_objects w.control (plugged at.0 w.control) at.0 h k k w.comes.plugs [] taken.held refl (λ i. refl) (λ i. refl);
  }

  -- ---- the command is processed
  module _ {S : Type 0} (s t : State (Load N O I)) (h k : Holding N) (names : EndId → Option N) (c : Control) (to : ObjId) (a : Answered N S) where
    now_is : (end : Option EndId) (joined : List (Joining N)) → HasJoined joined a → JoinsWith names end joined → processed to.0 (Plug end) (answers_in a) c ≡ taken_in to.0 end c
    now_is None joined has joins = refl
    now_is (Some e) joined has joins = ap (λ (x : Attached). greet x e (end_plugged to.0 e c)) answer_is
      where
        answer_is : kind_answer a.joined e ≡ Yes
        answer_is = ap (λ (js : List (Joining N)). kind_answer js e) (has.are ∙ joins.one) ∙ ap (λ (b : Bool). if b then Yes else Yes) (end_self e)

    told_joins : (end : Option EndId) (joined : List (Joining N)) → JoinsWith names end joined → map (λ j. let x : Joins = record { end = j.end; peer = j.peer; met = j.met } in x) joined ≡ word_joins c (Plug end)
    told_joins None joined joins = ap (λ (js : List (Joining N)). map (λ j. let x : Joins = record { end = j.end; peer = j.peer; met = j.met } in x) js) joins
    told_joins (Some e) joined joins = ap (λ (js : List (Joining N)). map (λ j. let x : Joins = record { end = j.end; peer = j.peer; met = j.met } in x) js) joins.one

    no_refusal : (end : Option EndId) (joined : List (Joining N)) (d : Control) → JoinsWith names end joined → MayAnswerAll d joined
    no_refusal None joined d joins = subst (λ (js : List (Joining N)). MayAnswerAll d js) (sym joins) tt
    no_refusal (Some e) joined d joins = subst (λ (js : List (Joining N)). MayAnswerAll d js) (sym joins.one) (tt, tt)

    all_named : (end : Option EndId) (joined : List (Joining N)) → JoinsWith names end joined → All (IsNamed out_name in_name names) joined
    all_named None joined joins = subst (λ (js : List (Joining N)). All (IsNamed out_name in_name names) js) (sym joins) (All-nil (IsNamed out_name in_name names))
    all_named (Some e) joined joins =
        subst (λ (js : List (Joining N)). All (IsNamed out_name in_name names) js) (sym joins.one)
        (All-cons (IsNamed out_name in_name names) (record { end = e; peer = []; written = joins.written; read = joins.read; answer = Yes; met = false }) [] (record { written = joins.writes; read = joins.reads }) (All-nil (IsNamed out_name in_name names)))

    module _ (word : Word) (end : Option EndId) (joined : List (Joining N)) (is : word ≡ Plug end) (has : HasJoined joined a) (done : TakesIn out_name in_name names c to end joined s t h k) where
      then_is : processed to.0 (Plug end) (answers_in a) c ≡ taken_in to.0 end c
      then_is = now_is end joined has done.joins

      pub plug_processed : IsProcessed out_name in_name s t h k names c (record { to = to; word = word }) a
      plug_processed = subst (λ (x : Word). IsProcessed out_name in_name s t h k names c (record { to = to; word = x }) a) (sym is) (record {
        answers = record {
          joined = ap (λ (js : List (Joining N)). map (λ j. let x : Joins = record { end = j.end; peer = j.peer; met = j.met } in x) js) has.are ∙ told_joins end joined done.joins;
          kinds = subst (λ (js : List (Joining N)). MayAnswerAll (processed to.0 (Plug end) (answers_in a) c) js) (sym has.are) (no_refusal end joined (processed to.0 (Plug end) (answers_in a) c) done.joins);
          opened = has.opened;
          settled = has.settled;
          output = has.output;
          named = subst (λ (js : List (Joining N)). All (IsNamed out_name in_name names) js) (sym has.are) (all_named end joined done.joins);
        };
        led = subst (λ (d : Control). HasDone out_name in_name names d s t k) (sym then_is) (record { stands = done.stands; has = done.has; puts = done.puts });
        places = done.places;
      })

      pub plug_told : TurnsOnce c (processed to.0 word (answers_in a) c) h k
      plug_told = subst (λ (x : Word). TurnsOnce c (processed to.0 x (answers_in a) c) h k) (sym is) (subst (λ (d : Control). TurnsOnce c d h k) (sym then_is) done.turned)

      pub plug_came : JoinsFor c (record { to = to; word = word }) a h k
      plug_came = record {
        came = done.came ∙ ap (λ (js : List (Joining N)). h.joined ++ js) (sym (ap (λ (x : Word). come_by x a.joined) is ∙ has.are));
        objects = subst (λ (x : Word). KeepsObjects c (processed to.0 x (answers_in a) c) h k) (sym is) (subst (λ (d : Control). KeepsObjects c d h k) (sym then_is) done.objects);
        heard = done.heard ∙ sym (ap (λ (x : Word). h.heard ++ heard_by to x c (processed to.0 x (answers_in a) c)) is);
      }
