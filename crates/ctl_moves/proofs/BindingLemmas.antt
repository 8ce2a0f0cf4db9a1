-- What the bind of an end needs that is the oldest command of a mailbox, and what it does.
use Rattle.std.specs.Prelude.{◌≡◌, ◌<◌, ◌≤◌, ◌⊎◌, ◌+◌, ◌==◌, ◌++◌, ◌∷◌, [], ℕ, Bool, true, false, cond, List, Option, Some, None, All, map, length, slice_index_or, if◌then◌else◌, refl}
use Rattle.std.proofs.Common.{arith, sym, ap, ◌∙◌, subst, inl, inr}
use Rattle.std.proofs.lemmas.Bool.{cases_eq, cases_lt}
use Rattle.std.proofs.lemmas.List.{append-nil, get_or_past, length-set}
use Rattle.std.proofs.lemmas.List.Elements.{All-cons, All-nil}
use Rattle.zq_base.specs.declared.attached.Attached.{Attached}
use Rattle.zq_base.specs.declared.attached.Attached.TheVariants.{Yes, BadId, Second}
use Rattle.zq_base.specs.declared.ids.EndId.{EndId}
use Rattle.zq_base.specs.declared.ids.ObjId.{ObjId}
use Rattle.zq_base.specs.declared.kind.Kind.{Kind}
use Rattle.mailbox.specs.Mail.{Mail}
use Rattle.spec_control.specs.declared.entry.Answered.{Answered}
use Rattle.spec_control.specs.declared.entry.Joining.{Joining}
use Rattle.spec_control.specs.declared.letter.Word.{Word}
use Rattle.spec_control.specs.declared.letter.Word.TheVariants.{PipeBind}
use Rattle.spec_control.specs.PairPhase.{BindCame}
use Rattle.spec_control.specs.declared.end.EndState.{EndState}
use Rattle.spec_control.specs.Place.{Place}
use Rattle.spec_control.specs.Row.{Row, nobody}
use Rattle.spec_control.specs.Rows.{obj}
use Rattle.spec_control.specs.Stage.{has_ended, was_asked}
use Rattle.spec_control.specs.declared.end.Reason.{Reason}
use Rattle.spec_control.specs.declared.end.Reason.TheVariants.{Closed, BadId as BadReason, Second as SecondReason}
use Rattle.spec_control.specs.Control.{Control, ask, attach, greet, is_end, owner_of, place_of}
use Rattle.spec_control.specs.After.{answers_in, kind_answer, processed}
use Rattle.spec_control.specs.ControlRun.{Joins, MayAnswer, MayAnswerAll}
use Rattle.control_laws.proofs.AskLemmas.{end_self}
use Rattle.control_laws.proofs.AttachLemmas.{Greets, any_last, greets}
use Rattle.control_laws.specs.Room.{to_come}
use Rattle.desk.specs.declared.halves.Halves.{Halves}
use Rattle.desk.specs.declared.halves.NamedHalves.{NamedHalves}
use Rattle.desk.specs.declared.load.Load.{Load}
use Rattle.desk.specs.declared.load.Load.TheVariants.{Halves as IsHalves}
use Rattle.desk.specs.Holding.{HasNowhere, HearsNone, BeginsActive, Holding, Joined, JoinsBy, MayRefuse, Stays, held_with, joining_with}
use Rattle.desk.specs.Turns.{HasTurned, TurnsBy, turn_at}
use Rattle.desk.specs.Load.{AreHalvesOf, IsNamed}
use Rattle.ctl_moves.specs.Turning.{Leads, PutsLoaded, TurnsOnce, turn_of}
use Rattle.ctl_moves.proofs.MailLemmas.{puts_not}
use Rattle.ctl_moves.proofs.TurnedLemmas.{still_at, turns_on, turns_same}
use Rattle.ctl_moves.proofs.AskedLemmas.{ask_else}
use Rattle.ctl_moves.proofs.ToldLemmas.{told_bound}
use Rattle.ctl_state.specs.declared.belongings.Belongings.{Belongings}
use Rattle.ctl_state.specs.declared.command.Command.{Command}
use Rattle.ctl_state.specs.declared.pair.Spot.TheVariants.{Away as IsAway}
use Rattle.ctl_state.specs.declared.state.State.{State}
use Rattle.ctl_state.specs.Boxes.{mail_at}
use Rattle.ctl_state.specs.Listed.{with_last}
use Rattle.ctl_state.specs.Lists.{belongings_at, no_belongings, with_ends}
use Rattle.ctl_state.specs.Needs.{AreMet}
use Rattle.ctl_state.specs.Objects.{TakesEnd, tree_row}
use Rattle.ctl_state.specs.Pairs.{owner_at, spot_at}
use Rattle.ctl_state.specs.Parts.{bound}
use Rattle.ctl_state.specs.Stands.{Stands}
use Rattle.ctl_state.proofs.EndLemmas.{owner_stands}
use Rattle.ctl_state.proofs.ReadLemmas.{read_less}
use Rattle.ctl_moves.specs.Asking.{MayAskOne}
use Rattle.ctl_moves.specs.Attaching.{asked_for, BindsAt, BindsEnd, BringsHalves, FitsLoad, IsAttached, KindFits, MayBind, MayComeBound, StaysAll}
use Rattle.ctl_moves.specs.Processing.{HasDone, HasJoined, IsProcessed}
use Rattle.ctl_moves.proofs.BoundLemmas.{elsewhere, has_bound, now_active, not_there, same_owners}

-- ---- a holder of which all is as before
module _ {N : Type 0} where
  same_lists_at : (o : ℕ) (h k : Holding N) → Stays o h k → (i : ℕ) → k.ends i ≡ h.ends i
  same_lists_at o h k stays i = by (cases_eq i o)
    where
      by : (i ≡ o) ⊎ (i ≡ o → ⊥) → k.ends i ≡ h.ends i
      by (inl same) = ap k.ends same ∙ stays.now.ends ∙ ap h.ends (sym same)
      by (inr other) = stays.now.others i other

  -- it does not matter of which object that is said
  pub stays_all : (o : ℕ) (h k : Holding N) → Stays o h k → StaysAll h k
  stays_all o h k stays n = record {
    now = record {
      ends = same_lists_at o h k stays n;
      others = λ i other. same_lists_at o h k stays i;
      objects = stays.now.objects;
      kinds = stays.now.kinds;
      output = stays.now.output;
      delimiters = stays.now.delimiters;
    };
    writers = stays.writers;
  }

  pub stays_itself : (h : Holding N) → StaysAll h h
  stays_itself h n = record {
    now = record { ends = refl; others = λ i other. refl; objects = λ i. refl; kinds = λ i. refl; output = λ i. refl; delimiters = λ i e here at. at };
    writers = λ d. refl;
  }

  pub stays_same : (h k : Holding N) → k ≡ h → StaysAll h k
  stays_same h k same = subst (λ (x : Holding N). StaysAll h x) (sym same) (stays_itself h)

-- ---- what the bind needs of the state
module _ {N O I : Type 0} (out_name : O → N) (in_name : I → N) (s : State (Load N O I)) (h : Holding N) (at : ObjId) (e : EndId) (x : Halves O I) (w : MayBind out_name in_name s h at.0 e x) where
  owner_kept : owner_of w.control e ≡ (owner_at s.pairs e).0
  owner_kept = owner_stands s e w.control w.stands

  -- the holder has no such end
  pub joins_new : HasNowhere e h
  joins_new i holds = not_there w.control e w.binds.way.within w.binds.way.fresh at.0 w.binds.way.owner w.names h i (w.has i holds)

  module _ (met : AreMet s w.control) where
    pub bind_away : spot_at s.pairs e ≡ IsAway
    bind_away = met.away e w.binds.way.away

    pub bind_takes : TakesEnd s.objects (owner_at s.pairs e)
    bind_takes = record {
      unended = met.unended (owner_at s.pairs e) (subst (λ (n : ℕ). has_ended (obj w.control.rows n).stage ≡ false) (sym w.binds.way.owner ∙ owner_kept) w.binds.lives);
      fits = met.ends_fit (owner_at s.pairs e).0 w.binds.way.few;
      room = subst (λ (n : ℕ). 0 < (belongings_at s.objects.lists n).ends.spare) (sym w.binds.way.owner ∙ owner_kept) w.binds.way.place;
    }

    pub bind_coming : 0 < (tree_row s.objects (owner_at s.pairs e).0).binds
    bind_coming = met.binds e w.binds.way.within w.binds.way.away

  -- it is attached
  pub binds : (t : State (Load N O I)) (k : Holding N) (answer : Attached) → Stands t (attach BindCame e w.control) → t ≡ bound e s → Joined at.0 (held_with out_name in_name e x) h k → BeginsActive e h k → MayRefuse (h.kind at.0) answer →
      BindsEnd w.names w.control at.0 e answer s t h k
  binds t k answer stands next joined begins refuses = record {
    stands = stands;
    has = has_bound w.control e w.binds.way.within w.binds.way.fresh at.0 w.binds.way.owner w.names h k (out_name x.out) (in_name x.input) joined begins (record { written = w.written; read = w.read }) w.has;
    refuses = refuses;
    boxes = ap (λ (y : State (Load N O I)). y.boxes) next;
    lists = ap (λ (y : State (Load N O I)). y.objects.lists) next ∙ ap (λ (n : ℕ). with_ends (with_last e) n s.objects.lists) (sym owner_kept ∙ w.binds.way.owner);
    holds = joined.now.objects;
    kinds = joined.now.kinds;
    begins = begins;
  }

  -- and may be asked
  abbrev pub asks_bound : (t : State (Load N O I)) (k : Holding N) (answer : Attached) → BindsEnd w.names w.control at.0 e answer s t h k → MayAskOne t k e
  asks_bound t k answer b = record {
    control = attach BindCame e w.control;
    names = w.names;
    stands = b.stands;
    has = b.has;
    lent = ap k.holds (same_owners w.control e w.binds.way.within e ∙ w.binds.way.owner) ∙ b.holds at.0 ∙ w.binds.lent;
    within = subst (λ (n : ℕ). e.pair.0 < n) (sym (length-set w.control.rows.pairs e.pair.0 _)) w.binds.way.within;
    listed = any_last (is_end e) w.control.attached e (end_self e);
    room = λ m. subst (λ (b2 : List (Mail (Command (Load N O I)))). to_come (attach BindCame e w.control) m ≤ (mail_at b2 m).spare) (sym b.boxes) (w.binds.room m);
  }

-- ---- an end that was just attached
module _ (c : Control) (e : EndId) where
  pub welcomed_asked : was_asked (obj c.rows (owner_of c e)).stage ≡ true → ask Closed false e c ≡ greet Yes e c
  welcomed_asked asked = sym (ap (λ (b : Bool). if b then ask Closed false e c else (if c.struck e then ask Closed false e c else c)) asked)

  pub welcomed_struck : was_asked (obj c.rows (owner_of c e)).stage ≡ false → c.struck e ≡ true → ask Closed false e c ≡ greet Yes e c
  welcomed_struck unasked struck =
      sym (ap (λ (b : Bool). if b then ask Closed false e c else (if c.struck e then ask Closed false e c else c)) unasked ∙ ap (λ (b : Bool). if b then ask Closed false e c else c) struck)

  pub welcomed_not : was_asked (obj c.rows (owner_of c e)).stage ≡ false → c.struck e ≡ false → c ≡ greet Yes e c
  welcomed_not unasked unstruck =
      sym (ap (λ (b : Bool). if b then ask Closed false e c else (if c.struck e then ask Closed false e c else c)) unasked ∙ ap (λ (b : Bool). if b then ask Closed false e c else c) unstruck)

module _ {N O I : Type 0} (out_name : O → N) (in_name : I → N) where
  pub greeted_by : (s t : State (Load N O I)) (h k : Holding N) (names : EndId → Option N) (c : Control) (e : EndId) (answer : Attached) (why : Option Reason) (reason : Reason) → why ≡ Some reason → asked_for why e c ≡ greet answer e c →
      Leads out_name in_name names (turn_of e c (ask reason false e c)) (ask reason false e c) s t h k → Leads out_name in_name names (turn_of e c (greet answer e c)) (greet answer e c) s t h k
  greeted_by s t h k names c e answer why reason is same leads = subst (λ (d : Control). Leads out_name in_name names (turn_of e c d) d s t h k) (sym (ap (λ (x : Option Reason). asked_for x e c) is) ∙ same) leads

  pub greeted_not : (s : State (Load N O I)) (h : Holding N) (e : EndId) (w : MayAskOne s h e) (answer : Attached) (why : Option Reason) → why ≡ None → asked_for why e w.control ≡ greet answer e w.control →
      Leads out_name in_name w.names (turn_of e w.control (greet answer e w.control)) (greet answer e w.control) s s h h
  greeted_not s h e w answer why is same =
      subst (λ (d : Control). Leads out_name in_name w.names (turn_of e w.control d) d s s h h) (sym (ap (λ (x : Option Reason). asked_for x e w.control) is) ∙ same)
      (record {
        stands = w.stands;
        has = w.has;
        puts = puts_not out_name in_name w.names s.boxes s.boxes refl;
        lists = refl;
        holds = λ i. refl;
        kinds = λ i. refl;
        output = λ i. refl;
        turned = subst (λ (ts : List (EndId × EndState)). TurnsBy ts h h) (sym (still_at e (place_of w.control e))) (turns_same h);
        joined = refl;
        heard = refl;
      })

-- ---- with what a load brings
module _ {N O I : Type 0} where
  pub halves_brought : (load : Option (Load N O I)) (half : NamedHalves N O I) → load ≡ Some (IsHalves half) → BringsHalves load
  halves_brought load half is = subst (λ (l : Option (Load N O I)). BringsHalves l) (sym is) tt

  pub same_halves : (load : Option (Load N O I)) (a b : NamedHalves N O I) → load ≡ Some (IsHalves a) → load ≡ Some (IsHalves b) → a ≡ b
  same_halves load a b is_a is_b = one (sym is_a ∙ is_b)
    where
      one : {a b : NamedHalves N O I} → ◌≡◌ {A = Option (Load N O I)} (Some (IsHalves a)) (Some (IsHalves b)) → a ≡ b
      one f = Prim.grind arith

-- an end joins with the names that its pipes have
pub joins_by_name : {N O I : Type 0} (out_name : O → N) (in_name : I → N) (names : EndId → Option N) (e : EndId) (half : NamedHalves N O I) (peer : List ℕ) (answer : Attached) → AreHalvesOf out_name in_name names e half →
    joining_with out_name in_name e peer half.halves answer ∷ [] ≡ record { end = e; peer = peer; written = half.written; read = half.read; answer = answer; met = false } ∷ []
joins_by_name {N} out_name in_name names e half peer answer are =
    ap (λ (x : N). let j : Joining N = record { end = e; peer = peer; written = x; read = in_name half.halves.input; answer = answer; met = false } in j ∷ []) are.out
    ∙ ap (λ (x : N). let j : Joining N = record { end = e; peer = peer; written = half.written; read = x; answer = answer; met = false } in j ∷ []) are.input

module _ {N O I : Type 0} (out_name : O → N) (in_name : I → N) (s : State (Load N O I)) (h : Holding N) (at : ObjId) (e : EndId) (load : Option (Load N O I)) (w : MayComeBound out_name in_name s h at.0 e load) (half : NamedHalves N O I) (is : load ≡ Some (IsHalves half)) where
  pub half_are : AreHalvesOf out_name in_name w.names e half
  half_are = subst (λ (x : NamedHalves N O I). AreHalvesOf out_name in_name w.names e x) (same_halves load w.comes.half half w.comes.brings is) w.comes.are

  abbrev pub may_bind : MayBind out_name in_name s h at.0 e half.halves
  may_bind = record {
    control = w.control;
    names = w.names;
    stands = w.stands;
    has = w.has;
    binds = w.comes.binds;
    written = half_are.written ∙ ap (λ (n : N). Some n) (sym half_are.out);
    read = half_are.read ∙ ap (λ (n : N). Some n) (sym half_are.input);
  }

  pub fits_half : (fits : Halves O I → Type 0) → FitsLoad fits load → fits half.halves
  fits_half fits fit = subst (λ (l : Option (Load N O I)). FitsLoad fits l) is fit

  -- it joined, and was asked where that is wanted
  pub attached : (mid t : State (Load N O I)) (m k : Holding N) (answer : Attached) (peer : List ℕ) (joined : List (Joining N)) → BindsEnd w.names w.control at.0 e answer s mid h m →
      Leads out_name in_name w.names (turn_of e (attach BindCame e w.control) (greet answer e (attach BindCame e w.control))) (greet answer e (attach BindCame e w.control)) mid t m k → joined ≡ record { end = e; peer = peer; written = half.written; read = half.read; answer = answer; met = false } ∷ [] →
      JoinsBy (joining_with out_name in_name e peer half.halves answer ∷ []) h m → HearsNone h m → IsAttached out_name in_name w.names w.control at.0 e peer joined s t h k
  attached mid t m k answer peer joined b leads one came heard = record {
    answer = answer;
    written = half.written;
    read = half.read;
    one = one;
    writes = half_are.written;
    reads = half_are.read;
    refuses = b.refuses;
    stands = leads.stands;
    has = leads.has;
    puts = subst (λ (boxes : List (Mail (Command (Load N O I)))). PutsLoaded out_name in_name w.names boxes t.boxes) b.boxes leads.puts;
    lists = leads.lists ∙ b.lists;
    turned = turns_on [] _ h m k (record { turns = b.begins.turns ∙ sym (append-nil h.turns); sealed = b.begins.sealed ∙ sym (append-nil h.sealed) })
        (subst (λ (p : Place). TurnsBy (turn_at e p (place_of (greet answer e (attach BindCame e w.control)) e)) m k) (now_active w.control e w.comes.binds.way.within) leads.turned);
    came = leads.joined ∙ came ∙ ap (λ (js : List (Joining N)). h.joined ++ js) (joins_by_name out_name in_name w.names e half peer answer half_are ∙ sym one);
    heard = leads.heard ∙ heard;
    holds = λ i. leads.holds i ∙ b.holds i;
    kinds = λ i. leads.kinds i ∙ b.kinds i;
  }

-- ---- the command is processed
-- a kind refuses what its socket may refuse
pub answers_kind : (o : Row) (kind : Option Kind) (answer : Attached) → KindFits o kind → MayRefuse kind answer → MayAnswer o answer
answers_kind o kind Yes fits may = tt
answers_kind o kind BadId fits may = let of = subst (λ (k : Option Kind). KindFits o k) may fits in (of.0, of.1)
answers_kind o kind Second fits may = let of = subst (λ (k : Option Kind). KindFits o k) may fits in (of.0, of.1)

module _ {N O I : Type 0} (out_name : O → N) (in_name : I → N) where
  -- one place fewer
  pub place_taken : (lists : List Belongings) (at : ℕ) (e : EndId) → 0 < (belongings_at lists at).ends.spare → (i : ℕ) →
      (belongings_at (with_ends (with_last e) at lists) i).ends.spare + cond (at == i) 1 0 ≡ (belongings_at lists i).ends.spare
  place_taken lists at e some i = read_less (λ (b : Belongings). b.ends.spare) lists at i _ no_belongings (by (cases_lt at (length lists))) (omega (arith, some))
    where
      by : (at < length lists) ⊎ (length lists ≤ at) → at < length lists
      by (inl within) = within
      by (inr past) = absurd (none (ap (λ (b : Belongings). b.ends.spare) (get_or_past lists at no_belongings past)))
        where
          none : ◌≡◌ {A = ℕ} (belongings_at lists at).ends.spare 0 → ⊥
          none z = omega (arith, z, some)

  pub bind_processed : {S : Type 0} (s t : State (Load N O I)) (h k : Holding N) (names : EndId → Option N) (c : Control) (to : ObjId) (word : Word) (e : EndId) (peer : List ℕ) (joined : List (Joining N)) (a : Answered N S) → word ≡ PipeBind e peer →
      HasJoined joined a → BindsAt c s h to.0 e → IsAttached out_name in_name names c to.0 e peer joined s t h k → IsProcessed out_name in_name s t h k names c (record { to = to; word = word }) a
  bind_processed s t h k names c to word e peer joined a is has binds done = subst (λ (x : Word). IsProcessed out_name in_name s t h k names c (record { to = to; word = x }) a) (sym is) of
    where
      one : a.joined ≡ record { end = e; peer = peer; written = done.written; read = done.read; answer = done.answer; met = false } ∷ []
      one = has.are ∙ done.one

      answer_is : kind_answer a.joined e ≡ done.answer
      answer_is = ap (λ (js : List (Joining N)). kind_answer js e) one ∙ ap (λ (b : Bool). if b then done.answer else Yes) (end_self e)

      now_is : processed to.0 (PipeBind e peer) (answers_in a) c ≡ greet done.answer e (attach BindCame e c)
      now_is = ap (λ (x : Attached). greet x e (attach BindCame e c)) answer_is

      g : Greets true e (attach BindCame e c) (greet done.answer e (attach BindCame e c))
      g = greets true done.answer e (attach BindCame e c)

      row_is : obj (greet done.answer e (attach BindCame e c)).rows (owner_of (greet done.answer e (attach BindCame e c)) e) ≡ obj c.rows to.0
      row_is =
          ap (λ (os : List Row). slice_index_or os (owner_of (greet done.answer e (attach BindCame e c)) e) nobody) g.leaves.objects
          ∙ ap (λ (n : ℕ). obj c.rows n) (g.leaves.owners e ∙ same_owners c e binds.way.within e ∙ binds.way.owner)

      of : IsProcessed out_name in_name s t h k names c (record { to = to; word = PipeBind e peer }) a
      of = record {
        answers = record {
          joined = ap (λ (js : List (Joining N)). map (λ j. let x : Joins = record { end = j.end; peer = j.peer; met = j.met } in x) js) one;
          kinds = subst (λ (js : List (Joining N)). MayAnswerAll (processed to.0 (PipeBind e peer) (answers_in a) c) js) (sym one) (
            subst (λ (d : Control). MayAnswer (obj d.rows (owner_of d e)) done.answer) (sym now_is)
                (subst (λ (r : Row). MayAnswer r done.answer) (sym row_is) (answers_kind (obj c.rows to.0) (h.kind to.0) done.answer binds.kind done.refuses)),
            tt,
          );
          opened = has.opened;
          settled = has.settled;
          output = has.output;
          named = subst (λ (js : List (Joining N)). All (IsNamed out_name in_name names) js) (sym one)
              (All-cons (IsNamed out_name in_name names) (record { end = e; peer = peer; written = done.written; read = done.read; answer = done.answer; met = false }) [] (record { written = done.writes; read = done.reads }) (All-nil (IsNamed out_name in_name names)));
        };
        led = subst (λ (d : Control). HasDone out_name in_name names d s t k) (sym now_is) (record { stands = done.stands; has = done.has; puts = done.puts });
        places = λ i.
            (let now = ap (λ (ls : List Belongings). (belongings_at ls i).ends.spare) done.lists in
            let taken = place_taken s.objects.lists to.0 e binds.way.place i in
            omega (arith, now, taken));
      }

-- no other end is moved as one is greeted
pub greet_else : (answer : Attached) (e x : EndId) (c : Control) → is_end x e ≡ false → place_of (greet answer e c) x ≡ place_of c x
greet_else Yes e x c other = by (was_asked (obj c.rows (owner_of c e)).stage) (c.struck e)
  where
    by : (a b : Bool) → place_of (if a then ask Closed false e c else (if b then ask Closed false e c else c)) x ≡ place_of c x
    by true b = ask_else Closed false e x c other
    by false true = ask_else Closed false e x c other
    by false false = refl
greet_else BadId e x c other = ask_else BadReason false e x c other
greet_else Second e x c other = ask_else SecondReason false e x c other

module _ {N O I : Type 0} (out_name : O → N) (in_name : I → N) where
  -- the holder was told of the end's own change alone
  pub bind_told : {S : Type 0} (s t : State (Load N O I)) (h k : Holding N) (names : EndId → Option N) (c : Control) (to : ObjId) (word : Word) (e : EndId) (peer : List ℕ) (joined : List (Joining N)) (a : Answered N S) → word ≡ PipeBind e peer →
      HasJoined joined a → BindsAt c s h to.0 e → IsAttached out_name in_name names c to.0 e peer joined s t h k → TurnsOnce c (processed to.0 word (answers_in a) c) h k
  bind_told s t h k names c to word e peer joined a is has binds done once =
      subst (λ (x : Word). HasTurned c (processed to.0 x (answers_in a) c) h k) (sym is)
      (subst (λ (d : Control). HasTurned c d h k) (sym (ap (λ (x : Attached). greet x e (attach BindCame e c)) answer_is))
      (told_bound c (greet done.answer e (attach BindCame e c)) e h k (greets true done.answer e (attach BindCame e c)).leaves.attached stay binds.way.away done.turned))
    where
      answer_is : kind_answer a.joined e ≡ done.answer
      answer_is = ap (λ (js : List (Joining N)). kind_answer js e) (has.are ∙ done.one) ∙ ap (λ (b : Bool). if b then done.answer else Yes) (end_self e)

      stay : All (λ x. place_of (greet done.answer e (attach BindCame e c)) x ≡ place_of c x) c.attached
      stay i x lt = greet_else done.answer e _ (attach BindCame e c) (binds.way.fresh i x lt) ∙ elsewhere c e binds.way.within _ (binds.way.fresh i x lt)
