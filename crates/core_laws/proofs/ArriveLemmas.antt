-- How ends came to closed sockets, by the item of the call.
use Rattle.std.specs.Prelude.{◌≡◌, ◌≤◌, ◌==◌, ◌⊎◌, ◌++◌, ◌∷◌, [], ℕ, true, false, List, Some, None, Option, All, flat_map, length, map, refl}
use Rattle.std.specs.List.{list_any}
use Rattle.std.proofs.Common.{arith, sym, ap, ◌∙◌, subst, inl, inr}
use Rattle.std.proofs.lemmas.Bool.{eq-eqb}
use Rattle.std.proofs.lemmas.List.{append-nil}
use Rattle.std.proofs.lemmas.List.Elements.{All-head}
use Rattle.std.proofs.Math.Logic.{∥∥₁_map}
use Rattle.zq_base.specs.declared.ids.ObjId.{ObjId}
use Rattle.msg_pipe.specs.Known.{Known}
use Rattle.spec_control.specs.declared.entry.Did.{Did}
use Rattle.spec_control.specs.declared.entry.Did.TheVariants.{Asked, Delivered, Delimited}
use Rattle.spec_control.specs.declared.entry.Item.{Item}
use Rattle.spec_control.specs.declared.entry.Item.TheVariants.{Event, Seen}
use Rattle.spec_control.specs.declared.entry.Joining.{Joining}
use Rattle.spec_control.specs.declared.letter.Word.{Word}
use Rattle.spec_control.specs.declared.letter.Word.TheVariants.{Own, Plug, TermReq, Term, TermAck, PipeBind, PipeTerm, PipeTermAck, Stop, Reap}
use Rattle.spec_control.specs.Rows.{obj}
use Rattle.spec_control.specs.Control.{Control, begun}
use Rattle.spec_control.specs.ControlRun.{after_all, after_item, FitsItem, IsControlRun}
use Rattle.control_laws.proofs.ListLemmas.{never}
use Rattle.control_laws.specs.Kept.{Kept}
use Rattle.control_laws.proofs.RootLemmas.{runs_are_kept}
use Rattle.spec_control.specs.Moments.{Moment, moments_from}
use Rattle.desk.specs.declared.given.Given.{Given}
use Rattle.desk.specs.Joins.{KeepsObjects}
use Rattle.ctl_plane.specs.Past.{control_of}
use Rattle.desk.specs.Desk.{came_with}
use Rattle.end_table.specs.declared.changes.PipeChange.{PipeChange}
use Rattle.closed_ends.specs.declared.sockets.ClosedSockets.{ClosedSockets}
use Rattle.closed_ends.specs.Coming.{HasCome, IsBrought}
use Rattle.closed_ends.specs.Has.{holding_in}
use Rattle.core_laws.specs.Came.{CameAll, CameByMoments, SocketsCame, TakesNoneIn}
use Rattle.core_laws.proofs.CameLemmas.{reaper_ends_came}
use Rattle.core_laws.proofs.NumberLemmas.{no_socket_comes, one_socket_comes}
use Rattle.plain_desk.specs.Lent.{moments_of, GrowsBy, IsOneOrder, Lent}
use Rattle.plain_desk.proofs.HoldLemmas.{no_plug_between}
use Rattle.socket_laws.specs.Behind.{is_request, is_requested}
use Rattle.socket_laws.proofs.LastLemmas.{grown}
use Rattle.core_laws.specs.Arriving.{plugs, plugs_by, plugs_in, ReaperCameSo, ServesClosed}
use Rattle.core_laws.specs.Ends.{brings_none, brings_none_by, ReaperDid}
use Rattle.core_laws.specs.However.{CameHow, CameOf}
use Rattle.core_laws.specs.Items.{reaped_by, reaped_by_word, reaped_in, ComesBy}
use Rattle.ctl_moves.specs.Attaching.{binds_end}
use Rattle.core_laws.specs.Joining.{binds_by, binds_in}
use Rattle.core_laws.proofs.GrowLemmas.{runs_on}
use Rattle.core_laws.proofs.InLemmas.{takes_none_in}
use Rattle.core_laws.proofs.ItemLemmas.{comes_by, none_some}
use Rattle.core_laws.proofs.ReapedJoinLemmas.{bound_stands}
use Rattle.core_laws.proofs.ReapedNoneLemmas.{any_last, any_number, no_joins_by, some_none}

-- ---- an item
-- a command is a bind, a Plug or a Reap, or no end joins with it
word_is : (word : Word) → plugs word ≡ false → reaped_by_word word ≡ None → (brings_none word ≡ true) ⊎ (binds_end word ≡ true)
word_is (Own child) p r = inl refl
word_is (Plug end) p r = absurd (never (sym p))
word_is (TermReq child) p r = inl refl
word_is Term p r = inl refl
word_is (TermAck child) p r = inl refl
word_is (PipeBind e peer) p r = inr refl
word_is (PipeTerm e) p r = inl refl
word_is (PipeTermAck e) p r = inl refl
word_is Stop p r = inl refl
word_is (Reap socket) p r = absurd (none_some (sym r))

module _ {N T : Type 0} where
  item_is : (x : Item N T) → is_request x ≡ false → plugs_by x ≡ false → reaped_by x ≡ None → (brings_none_by x ≡ true) ⊎ (binds_by x ≡ true)
  item_is (Event entry) none p r = of entry.did none p r
    where
      of : (d : Did N T) → is_requested d ≡ false → plugs_in d ≡ false → reaped_in d ≡ None → (brings_none_by (let x : Item N T = Event (record { by = entry.by; did = d }) in x) ≡ true) ⊎ (binds_in d ≡ true)
      of (Asked req reply h) none p r = absurd (never (sym none))
      of (Delivered slot letter h) none p r = word_is letter.word p r
      of (Delimited e h) none p r = inl refl
  item_is (Seen sight) none p r = inl refl

module _ {S O I N T : Type 0} (K : Known S O I N) (old new : Lent (Given N O I) N T) (before behind : S) (from to : ClosedSockets N O I) (changes : List (PipeChange O I × S)) (did : ReaperDid K old new before behind from to changes)
    (serves : ServesClosed old new did.call from) (h : HasCome K (IsBrought (control_of old.past) old.past.given) from to) where
  abbrev found : Control
  found = after_all old.items (begun old.past.workers)

  abbrev grows : GrowsBy old new
  grows = did.call.grows

  was_order : IsOneOrder old
  was_order = did.call.before

  kept : Kept found
  kept = (let run = was_order.order in runs_are_kept N T old.past.workers old.items run.run)

  by_moments : CameByMoments K (moments_from (after_all old.items (begun old.past.workers)) did.call.grows.more) (IsBrought (control_of old.past) old.past.given) from to
  by_moments = (reaper_ends_came K T (moments_of old) (moments_of new) (moments_from found grows.more) (control_of old.past) old.past.given from to (grown old new grows)).0 did.keeps.came h

  -- ---- without an item
  nothing : grows.more ≡ [] → CameHow K old new from to
  nothing e = inl (by_moments.none (ap (λ (xs : List (Item N T)). flat_map (λ m. came_with m.item) (moments_from found xs)) e)
      (no_socket_comes K found found (control_of old.past) old.past.given behind from to h did.sound still (λ i. no_plug_between (obj found.rows i)) (λ i is. is)))
    where
      still : KeepsObjects found found (holding_in K.out_name K.in_name from) (holding_in K.out_name K.in_name to)
      still = record {
        holds = λ i same. (kept_ones i).0;
        kinds = λ i same. (kept_ones i).1;
        had = λ i is. inl (sym (kept_ones i).0 ∙ is, (kept_ones i).1);
        reaped = λ i was now lives. absurd (never (sym now ∙ was));
        taken_in = λ i came. absurd (never (sym (no_plug_between (obj found.rows i)) ∙ came));
      }
        where
          kept_ones : (i : ℕ) → ((holding_in K.out_name K.in_name to).holds i ≡ (holding_in K.out_name K.in_name from).holds i) × ((holding_in K.out_name K.in_name to).kind i ≡ (holding_in K.out_name K.in_name from).kind i)
          kept_ones = did.keeps.objects.none (grown old new grows ∙ ap (λ (xs : List (Item N T)). moments_of old ++ moments_from found xs) e ∙ append-nil (moments_of old))

  -- ---- with one
  module _ (x : Item N T) (one : grows.more ≡ x ∷ []) (none : is_request x ≡ false) (no_plug : plugs_by x ≡ false) where
    fits : FitsItem found x
    fits = (subst (IsControlRun found) one (runs_on old new did.call.behind grows)).0

    brings : ComesBy found x
    brings = comes_by found kept x fits

    keeps : KeepsObjects found (after_item x found) (holding_in K.out_name K.in_name from) (holding_in K.out_name K.in_name to)
    keeps =
        let m : Moment N T = record { found = found; item = x } in
        did.keeps.objects.one m (grown old new grows ∙ ap (λ (xs : List (Item N T)). moments_of old ++ moments_from found xs) one)

    none_in : TakesNoneIn found (after_item x found)
    none_in = takes_none_in found x kept fits no_plug

    joins_are : flat_map (λ m. came_with m.item) (moments_from found grows.more) ≡ came_with x
    joins_are = ap (λ (xs : List (Item N T)). flat_map (λ m. came_with m.item) (moments_from found xs)) one ∙ append-nil (came_with x)

    -- a socket came
    with_socket : (o : ObjId) → reaped_by x ≡ Some o → (p : ObjId) → SocketsCame K from to (p ∷ []) → CameHow K old new from to
    with_socket o reaps p came = inr (inr (p, of))
      where
        all : CameAll K (IsBrought (control_of old.past) old.past.given) p.0 from to
        all = by_moments.all p (joins_are ∙ brings.alone o reaps) came

        of : CameOf K old new from to p
        of = record {
          all = all;
          held = sym (any_number p.0 to.sockets.items) ∙ ap (list_any (λ (n : ObjId). p.0 == n.0)) came ∙ any_last p.0 (map (λ s. s.number) from.sockets.items) p [] (eq-eqb p.0 p.0 refl);
        }

    by_reap : (o : ObjId) → reaped_by x ≡ Some o → CameHow K old new from to
    by_reap o reaps = elim (one_socket_comes K found (after_item x found) (control_of old.past) old.past.given behind from to h did.sound keeps none_in o.0 (λ i was now. brings.one o reaps i was now)) [
      | inl alone ↦ inl (by_moments.none (joins_are ∙ brings.alone o reaps) alone)
      | inr came ↦ with_socket o reaps came.0 came.2
    ]

    -- none did
    no_socket : reaped_by x ≡ None → SocketsCame K from to []
    no_socket unreaped = no_socket_comes K found (after_item x found) (control_of old.past) old.past.given behind from to h did.sound keeps none_in (λ i was. brings.none unreaped i was)

    by_join : reaped_by x ≡ None → (js : List (Joining N)) → came_with x ≡ js → CameHow K old new from to
    by_join unreaped [] came = inl (by_moments.none (joins_are ∙ came) (no_socket unreaped))
    by_join unreaped (j ∷ []) came = elim (item_is x none no_plug unreaped) [
      | inl nothing_joins ↦ absurd (some_none (sym came ∙ no_joins_by found x nothing_joins fits))
      | inr bound ↦ inr (inl (
        j,
        record {
          one = by_moments.one j (joins_are ∙ came) (no_socket unreaped);
          stands = bound_stands K old new before behind from to changes did serves.all x one bound j came;
        },
      ))
    ]
    by_join unreaped (j ∷ k ∷ js) came = absurd (many (ap length (sym came)) (brings.few none))
      where
        many : length (j ∷ k ∷ js) ≡ length (came_with x) → length (came_with x) ≤ 1 → ⊥
        many e few = omega (arith, e, few)

    by_item : (r : Option ObjId) → reaped_by x ≡ r → CameHow K old new from to
    by_item None e = by_join e (came_with x) refl
    by_item (Some o) e = by_reap o e

  came_so : CameHow K old new from to
  came_so = by grows.more refl did.call.few did.call.asks_none serves.no_plug
    where
      by : (xs : List (Item N T)) → grows.more ≡ xs → length xs ≤ 1 → All (λ x. is_request x ≡ false) xs → All (λ x. plugs_by x ≡ false) xs → CameHow K old new from to
      by [] e few none no_plug = nothing e
      by (x ∷ []) e few none no_plug = by_item x e (All-head (λ (y : Item N T). is_request y ≡ false) x [] none) (All-head (λ (y : Item N T). plugs_by y ≡ false) x [] no_plug) (reaped_by x) refl
      by (x ∷ y ∷ ys) e few none no_plug = absurd (omega (arith, few))

pub reaper_came_so : {S O I N : Type 0} (K : Known S O I N) (T : Type 0) → ReaperCameSo K T
reaper_came_so K T old new before behind from to changes did serves = ∥∥₁_map did.came (came_so K old new before behind from to changes did serves)
