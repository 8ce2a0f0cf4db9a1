-- With an item at which no end joins and none is taken over, none came.
use Rattle.std.specs.Prelude.{◌≡◌, ◌≤◌, ◌==◌, ◌||◌, ◌++◌, ◌∷◌, [], ℕ, Bool, true, false, List, None, All, flat_map, length, map, refl}
use Rattle.std.specs.List.{list_any}
use Rattle.std.specs.Coded.{codes}
use Rattle.std.proofs.Common.{arith, sym, ap, ◌∙◌, subst, inl, inr, true≢false}
use Rattle.std.proofs.lemmas.Bool.{eq-eqb, eqb-true}
use Rattle.std.proofs.lemmas.List.{append-nil, append_cancel_left}
use Rattle.std.proofs.lemmas.List.Elements.{All-head}
use Rattle.std.proofs.Math.Logic.{∥∥₁_elim}
use Rattle.zq_base.specs.declared.ids.ObjId.{ObjId}
use Rattle.msg_pipe.specs.Known.{Known}
use Rattle.spec_control.specs.declared.entry.Did.{Did}
use Rattle.spec_control.specs.declared.entry.Did.TheVariants.{Asked, Delivered, Delimited}
use Rattle.spec_control.specs.declared.entry.Item.{Item}
use Rattle.spec_control.specs.declared.entry.Item.TheVariants.{Event, Seen}
use Rattle.spec_control.specs.declared.entry.Joining.{Joining}
use Rattle.spec_control.specs.declared.letter.Word.{Word}
use Rattle.spec_control.specs.declared.letter.Word.TheVariants.{Own, Plug, TermReq, Term, TermAck, PipeBind, PipeTerm, PipeTermAck, Stop, Reap}
use Rattle.spec_control.specs.Rows.{obj}
use Rattle.spec_control.specs.Control.{Control, begun}
use Rattle.spec_control.specs.ControlRun.{after_all, after_item, is_between, word_joins, Fits, FitsItem, IsControlRun}
use Rattle.control_laws.proofs.ListLemmas.{never}
use Rattle.control_laws.specs.Kept.{Kept}
use Rattle.control_laws.proofs.RootLemmas.{runs_are_kept}
use Rattle.spec_control.specs.Moments.{Moment, moments_from}
use Rattle.control_laws.specs.OwnMoves.{own_moves, word_moves}
use Rattle.desk.specs.declared.given.Given.{Given}
use Rattle.desk.specs.Joins.{come_by, IsReaped}
use Rattle.ctl_plane.specs.Past.{control_of}
use Rattle.desk.specs.Desk.{came_with}
use Rattle.end_table.specs.declared.changes.PipeChange.{PipeChange}
use Rattle.control_laws.proofs.BetweenLemmas.{between_on, reap_comes}
use Rattle.control_laws.proofs.LawLemmas.{made_none}
use Rattle.sock_core.specs.Standing.{standing_joins}
use Rattle.closed_ends.specs.declared.sockets.ClosedSocket.{ClosedSocket}
use Rattle.closed_ends.specs.declared.sockets.ClosedSockets.{ClosedSockets}
use Rattle.closed_ends.specs.Coming.{ends_by, joins_by, sockets_by, CameAlone, CameClosed, HasCome, IsBrought, Way}
use Rattle.closed_ends.specs.Finding.{came_given}
use Rattle.closed_ends.specs.Has.{is_socket}
use Rattle.closed_ends.proofs.FormLemmas.{sound_of, AllAlone}
use Rattle.plain_desk.specs.Lent.{moments_of, GrowsBy, IsOneOrder, Lent}
use Rattle.socket_laws.proofs.LastLemmas.{grown}
use Rattle.core_laws.specs.Arriving.{plugs, plugs_by, plugs_in}
use Rattle.core_laws.specs.Ends.{brings_none, brings_none_in, brings_none_by, NoneCame, ReaperDid}
use Rattle.core_laws.proofs.GrowLemmas.{runs_on}
use Rattle.core_laws.proofs.InLemmas.{takes_none_in}

pub some_none : {X : Type 0} {x : X} {xs : List X} → x ∷ xs ≡ [] → ⊥
some_none e = Prim.grind arith

none_of : {X Y : Type 0} (f : X → Y) (xs : List X) → map f xs ≡ [] → xs ≡ []
none_of f [] e = refl
none_of f (x ∷ xs) e = absurd (some_none e)

-- ---- an item
no_word_joins : (c : Control) (word : Word) → brings_none word ≡ true → word_joins c word ≡ []
no_word_joins c (Own child) h = refl
no_word_joins c (Plug end) h = absurd (never h)
no_word_joins c (TermReq child) h = refl
no_word_joins c Term h = refl
no_word_joins c (TermAck child) h = refl
no_word_joins c (PipeBind e peer) h = absurd (never h)
no_word_joins c (PipeTerm e) h = refl
no_word_joins c (PipeTermAck e) h = refl
no_word_joins c Stop h = refl
no_word_joins c (Reap socket) h = absurd (never h)

come_none : {N : Type 0} (word : Word) (js : List (Joining N)) → js ≡ [] → come_by word js ≡ []
come_none (Own child) js e = e
come_none (Plug end) js e = e
come_none (TermReq child) js e = e
come_none Term js e = e
come_none (TermAck child) js e = e
come_none (PipeBind end peer) js e = e
come_none (PipeTerm end) js e = e
come_none (PipeTermAck end) js e = e
come_none Stop js e = e
come_none (Reap socket) js e = refl

no_reap : (i at : ℕ) (word : Word) → brings_none word ≡ true → list_any (reap_comes i) (word_moves at word) ≡ false
no_reap i at (Own child) h = refl
no_reap i at (Plug end) h = absurd (never h)
no_reap i at (TermReq child) h = refl
no_reap i at Term h = refl
no_reap i at (TermAck child) h = refl
no_reap i at (PipeBind e peer) h = absurd (never h)
no_reap i at (PipeTerm e) h = refl
no_reap i at (PipeTermAck e) h = refl
no_reap i at Stop h = refl
no_reap i at (Reap socket) h = absurd (never h)

pub any_last : (i : ℕ) (xs : List ObjId) (n : ObjId) (ns : List ObjId) → (i == n.0) ≡ true → list_any (λ (o : ObjId). i == o.0) (xs ++ n ∷ ns) ≡ true
any_last i [] n ns is = ap (λ (b : Bool). b || list_any (λ (o : ObjId). i == o.0) ns) is
any_last i (x ∷ xs) n ns is = by (i == x.0) (any_last i xs n ns is)
  where
    by : (b : Bool) → list_any (λ (o : ObjId). i == o.0) (xs ++ n ∷ ns) ≡ true → (b || list_any (λ (o : ObjId). i == o.0) (xs ++ n ∷ ns)) ≡ true
    by true h = refl
    by false h = h

-- such a command is no Plug
no_plug_word : (word : Word) → brings_none word ≡ true → plugs word ≡ false
no_plug_word (Own child) h = refl
no_plug_word (Plug end) h = absurd (never h)
no_plug_word (TermReq child) h = refl
no_plug_word Term h = refl
no_plug_word (TermAck child) h = refl
no_plug_word (PipeBind e peer) h = refl
no_plug_word (PipeTerm e) h = refl
no_plug_word (PipeTermAck e) h = refl
no_plug_word Stop h = refl
no_plug_word (Reap socket) h = refl

module _ {N T : Type 0} where
  no_plug : (x : Item N T) → brings_none_by x ≡ true → plugs_by x ≡ false
  no_plug (Event entry) none = of entry.did none
    where
      of : (did : Did N T) → brings_none_in did ≡ true → plugs_in did ≡ false
      of (Asked req reply h) none = refl
      of (Delivered slot letter h) none = no_plug_word letter.word none
      of (Delimited e h) none = refl
  no_plug (Seen sight) none = refl

module _ {N T : Type 0} (c : Control) where
  no_joins : (did : Did N T) (by : ℕ) → brings_none_in did ≡ true → Fits c did → came_with (let item : Item N T = Event (record { by = by; did = did }) in item) ≡ []
  no_joins (Asked req reply h) by none fits = absurd (never none)
  no_joins (Delivered slot letter h) by none fits = come_none letter.word h.joined (none_of (λ j. record { end = j.end; peer = j.peer; met = j.met }) h.joined ((let is = fits.answered in is.joined) ∙ no_word_joins c letter.word none))
  no_joins (Delimited e h) by none fits = none_of (λ j. record { end = j.end; peer = j.peer; met = j.met }) h.joined (let is = fits.answered in is.joined)

  pub no_joins_by : (x : Item N T) → brings_none_by x ≡ true → FitsItem c x → came_with x ≡ []
  no_joins_by (Event entry) none fits = no_joins entry.did entry.by none fits
  no_joins_by (Seen sight) none fits = refl

  no_reap_in : (i : ℕ) (did : Did N T) → brings_none_in did ≡ true → list_any (reap_comes i) (own_moves c did) ≡ false
  no_reap_in i (Asked req reply h) none = absurd (never none)
  no_reap_in i (Delivered slot letter h) none = no_reap i letter.to.0 letter.word none
  no_reap_in i (Delimited e h) none = refl

  -- a closed socket whose Reap is on its way is so still
  still_between : Kept c → (i : ℕ) (x : Item N T) → brings_none_by x ≡ true → FitsItem c x → is_between (obj c.rows i) ≡ true → is_between (obj (after_item x c).rows i) ≡ true
  still_between kept i (Seen sight) none fits is = is
  still_between kept i (Event entry) none fits is = elim (between_on c entry.did kept fits (made_none c kept entry.did) i is) [
    | inl so ↦ so
    | inr reaps ↦ absurd (true≢false (sym reaps ∙ no_reap_in i entry.did none))
  ]

-- ---- sockets that came
module _ {N O I : Type 0} where
  pub any_number : (i : ℕ) (ss : List (ClosedSocket N O I)) → list_any (λ (o : ObjId). i == o.0) (map (λ s. s.number) ss) ≡ list_any (is_socket i) ss
  any_number i [] = refl
  any_number i (s ∷ ss) = ap (λ (b : Bool). (i == s.number.0) || b) (any_number i ss)

  not_before : (ss : List (ClosedSocket N O I)) → AllAlone ss → (xs : List ObjId) (n : ObjId) (ns : List ObjId) → map (λ s. s.number) ss ≡ xs ++ n ∷ ns → list_any (λ (o : ObjId). n.0 == o.0) xs ≡ true → ⊥
  not_before ss alone [] n ns e is = never is
  not_before [] alone (x ∷ xs) n ns e is = some_none (sym e)
  not_before (s ∷ ss) alone (x ∷ xs) n ns e is = by (n.0 == x.0) refl is (λ t h. not_before ss alone.1 xs n ns t h)
    where
      head : s.number ≡ x
      head = cons_head e
        where
          cons_head : {y z : ObjId} {ys zs : List ObjId} → y ∷ ys ≡ z ∷ zs → y ≡ z
          cons_head h = Prim.grind (arith, h)

      tail : map (λ s. s.number) ss ≡ xs ++ n ∷ ns
      tail = cons_tail e
        where
          cons_tail : {y z : ObjId} {ys zs : List ObjId} → y ∷ ys ≡ z ∷ zs → ys ≡ zs
          cons_tail h = Prim.grind (arith, h)

      by : (b : Bool) → (n.0 == x.0) ≡ b → (b || list_any (λ (o : ObjId). n.0 == o.0) xs) ≡ true
          → (map (λ s. s.number) ss ≡ xs ++ n ∷ ns → list_any (λ (o : ObjId). n.0 == o.0) xs ≡ true → ⊥) → ⊥
      by false other h rest = rest tail h
      by true same h rest =
          let one = eqb-true n.0 x.0 same in
          true≢false (sym (sym (any_number s.number.0 ss) ∙ ap (list_any (λ (o : ObjId). s.number.0 == o.0)) tail ∙ any_last s.number.0 xs n ns (eq-eqb s.number.0 n.0 (ap (λ (o : ObjId). o.0) head ∙ sym one))) ∙ alone.0)

  no_ends : (ways : List (Way N O I)) → flat_map joins_by ways ≡ [] → flat_map sockets_by ways ≡ [] → flat_map ends_by ways ≡ []
  no_ends [] a b = refl
  no_ends (CameAlone j g ∷ ways) a b = absurd (some_none a)
  no_ends (CameClosed number gs ∷ ways) a b = absurd (some_none b)

module _ {S O I N T : Type 0} (K : Known S O I N) (old new : Lent (Given N O I) N T) (before behind : S) (from to : ClosedSockets N O I) (changes : List (PipeChange O I × S)) (did : ReaperDid K old new before behind from to changes) where
  abbrev found : Control
  found = after_all old.items (begun old.past.workers)

  abbrev grows : GrowsBy old new
  grows = did.call.grows

  was_order : IsOneOrder old
  was_order = did.call.before

  kept : Kept found
  kept = (let run = was_order.order in runs_are_kept N T old.past.workers old.items run.run)

  fits : IsControlRun found grows.more
  fits = runs_on old new did.call.behind grows

  none_joined : (xs : List (Item N T)) → IsControlRun found xs → length xs ≤ 1 → All (λ x. brings_none_by x ≡ true) xs → flat_map (λ m. came_with m.item) (moments_from found xs) ≡ []
  none_joined [] run few none = refl
  none_joined (x ∷ []) run few none = ap (λ (js : List (Joining N)). js ++ []) (no_joins_by found x (All-head (λ (y : Item N T). brings_none_by y ≡ true) x [] none) run.0)
  none_joined (x ∷ y ∷ ys) run few none = absurd (omega (arith, few))

  -- a socket that it has it had
  was_held : (xs : List (Item N T)) → grows.more ≡ xs → length xs ≤ 1 → All (λ x. brings_none_by x ≡ true) xs → (i : ℕ) → list_any (is_socket i) to.sockets.items ≡ true → list_any (is_socket i) from.sockets.items ≡ true
  was_held [] e few none i is = sym (did.keeps.objects.none (grown old new grows ∙ ap (λ (xs : List (Item N T)). moments_of old ++ moments_from found xs) e ∙ append-nil (moments_of old)) i).0 ∙ is
  was_held (x ∷ []) e few none i is =
      let m : Moment N T = record { found = found; item = x } in
      elim ((did.keeps.objects.one m (grown old new grows ∙ ap (λ (xs : List (Item N T)). moments_of old ++ moments_from found xs) e)).had i is) [
        | inl had ↦ had.0
        | inr came ↦ elim came [
          | inl reaped ↦ absurd (reaps reaped)
          | inr taken ↦ absurd (true≢false (sym taken.came ∙ takes_none_in found x kept (subst (IsControlRun found) e fits).0 (no_plug x (All-head (λ (y : Item N T). brings_none_by y ≡ true) x [] none)) i))
        ]
      ]
    where
      reaps : IsReaped (obj found.rows i) (obj (after_item x found).rows i) None → ⊥
      reaps r = true≢false (sym (still_between found kept i x (All-head (λ (y : Item N T). brings_none_by y ≡ true) x [] none) (subst (IsControlRun found) e fits).0 r.between) ∙ r.taken)
  was_held (x ∷ y ∷ ys) e few none i is = absurd (omega (arith, few))

  module _ (none : All (λ item. brings_none_by item ≡ true) did.call.grows.more) (h : HasCome K (IsBrought (control_of old.past) old.past.given) from to) where
    no_one : flat_map joins_by h.ways ≡ []
    no_one =
        append_cancel_left (standing_joins from.joins.items) (flat_map joins_by h.ways) (flat_map (λ m. came_with m.item) (moments_from found grows.more)) (sym h.joins ∙ did.keeps.came (moments_from found grows.more) (grown old new grows))
        ∙ none_joined grows.more fits did.call.few none

    no_socket : (ns : List ObjId) → flat_map sockets_by h.ways ≡ ns → ns ≡ []
    no_socket [] e = refl
    no_socket (n ∷ ns) e =
        let numbers = h.sockets ∙ ap (λ (l : List ObjId). map (λ s. s.number) from.sockets.items ++ l) e in
        let here = sym (any_number n.0 to.sockets.items) ∙ ap (list_any (λ (o : ObjId). n.0 == o.0)) numbers ∙ any_last n.0 (map (λ s. s.number) from.sockets.items) n ns (eq-eqb n.0 n.0 refl) in
        let had = was_held grows.more refl did.call.few none n.0 here in
        absurd (not_before to.sockets.items (sound_of K behind to.sockets.items did.sound).alone (map (λ s. s.number) from.sockets.items) n ns numbers (any_number n.0 from.sockets.items ∙ had))

    as_many : length to.came.items ≡ length from.came.items
    as_many =
        ap length (h.came ∙ ap (λ (gs : List (Given N O I)). from.came.items ++ map (came_given K.in_name) gs) (no_ends h.ways no_one (no_socket (flat_map sockets_by h.ways) refl)) ∙ append-nil from.came.items)

nat_set : IsSet ℕ
nat_set = Prim.hlevel codes

pub none_came : {S O I N : Type 0} (K : Known S O I N) (T : Type 0) → NoneCame K T
none_came K T old new before behind from to changes did none =
    ∥∥₁_elim did.came (nat_set (length to.came.items) (length from.came.items)) (as_many K old new before behind from to changes did none)
