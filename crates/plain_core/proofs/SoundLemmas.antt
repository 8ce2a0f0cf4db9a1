-- A core goes on over an item that leaves pipes aside.
use Rattle.std.specs.Prelude.{◌≡◌, ◌≤◌, ◌++◌, ℕ, List, [], ◌∷◌, Option, Some, length}
use Rattle.std.proofs.Common.{arith, sym, ap, ◌∙◌, subst}
use Rattle.zq_base.specs.Ends.{PipeId}
use Rattle.msg_pipe.specs.Known.{Known, IsThere}
use Rattle.spec_pattern.specs.PipeStep.{most_commits}
use Rattle.spec_pattern.specs.declared.answers.Skip.{Skip}
use Rattle.spec_control.specs.declared.entry.Did.TheVariants.{Asked as DidAsk}
use Rattle.spec_control.specs.declared.entry.Item.{Item}
use Rattle.spec_control.specs.declared.entry.Item.TheVariants.{Event, Seen}
use Rattle.spec_control.specs.declared.entry.SeenEmpty.TheVariants.{Nothing}
use Rattle.spec_control.specs.declared.entry.Sight.{Sight}
use Rattle.spec_control.specs.declared.request.Req.{Req}
use Rattle.spec_control.specs.declared.request.Reply.{Reply}
use Rattle.spec_control.specs.Control.{Control, begun}
use Rattle.spec_control.specs.ControlRun.{after_all, after_item, Fits, FitsItem, IsControlRun}
use Rattle.spec_control.specs.Names.{name_of}
use Rattle.spec_control.specs.Moments.{Moment, moments_from}
use Rattle.spec_run.specs.Act.{Act, Said}
use Rattle.spec_run.specs.Event.{acts_said}
use Rattle.spec_run.specs.OwnedRun.{pipe_capacity}
use Rattle.zq_world.specs.Piece.{Piece, piece_of, AreActsBy}
use Rattle.zq_world.specs.Played.{IsOrderly}
use Rattle.spec_control.specs.Has.{AreBy}
use Rattle.zq_world.specs.declared.marks.PieceMark.{PieceMark}
use Rattle.zq_world.specs.Marks.{all_told, pieces_told, TalesGoOn}
use Rattle.socket_laws.specs.Standing.{CoreStands, CoresAreOrderly}
use Rattle.socket_laws.specs.Aside.{next_moment, IsAside, AsidesGoOn, LooksAreAsides}
use Rattle.socket_laws.proofs.AsideLemmas.{moments_more, names_more, said_alone, state_more}
use Rattle.socket_laws.specs.Bounds.{TellIdentities, TellsIdentity}
use Rattle.plain_desk.specs.Lent.{Lent, Asks, IsOneOrder, KeepsAside, Sees}
use Rattle.plain_core.specs.Telling.{item_marks}
use Rattle.plain_core.specs.Sound.{Core, core_of, pieces_in, HasClosed, HasDrops, IsAsked, IsCore, IsSound, Requests}
use Rattle.std.specs.Prelude.{◌==◌, Bool, true, false, refl}
use Rattle.std.proofs.Common.{true≢false}
use Rattle.std.proofs.lemmas.Bool.{eq-eqb, eqb-true}
use Rattle.std.proofs.lemmas.List.Elements.{All-weaker}
use Rattle.ctl_plane.specs.Past.{control_of}
use Rattle.desk.specs.declared.given.Given.{Given}
use Rattle.desk.specs.TakingOver.{AreDistinct, AreGivenWith}
use Rattle.core_laws.specs.Counting.{CountsDrops}
use Rattle.core_laws.proofs.TableLemmas.{tables_go_on}
use Rattle.socket_laws.specs.Asked.{WereAsked}
use Rattle.plain_core.proofs.AskedLemmas.{asked_still}
use Rattle.desk.specs.Desk.{HasWhatTheySay}
use Rattle.zq_world.specs.CoreCalls.{IsOnlyReaper, LooksOnce, OnlyReaps}
use Rattle.closed_ends.specs.declared.sockets.ClosedSockets.{ClosedSockets}
use Rattle.closed_ends.specs.Has.{all_ends, holding_in}
use Rattle.core_laws.specs.Sealed.{AllAsked}
use Rattle.core_laws.specs.Calls.{for_caller}
use Rattle.core_laws.specs.Asides.{IsOneItem}
use Rattle.core_laws.specs.Taken.{hears_none}
use Rattle.core_laws.proofs.TakenLemmas.{grows_one, keeps_taken}
use Rattle.core_laws.proofs.UnsealedLemmas.{keeps_unsealed}
use Rattle.plain_core.specs.Leaving.{moments_at, LeavesSockets}
use Rattle.plain_core.proofs.NextLemmas.{Next, last_fits, next_ask, next_look}
use Rattle.plain_core.proofs.LeaveLemmas.{look_leaves}
use Rattle.plain_core.proofs.SmallLemmas.{small_pipes}
use Rattle.plain_core.proofs.TakenLemmas.{apart_still, first_all, one_item}

-- who is the only reaper of more calls is that of the first
pub first_only : {N T : Type 0} (j : ℕ) (xs ys : List (Piece N T)) → IsOnlyReaper j (xs ++ ys) → IsOnlyReaper j xs
first_only {N} {T} j xs ys = first_all (λ (x : Piece N T). x.reaps ≡ true → x.by ≡ j) xs ys

-- and so is who is that of these calls, where a call more took no such letter
pub more_only : {N T : Type 0} (j k : ℕ) (xs : List (Piece N T)) (acts : List (Act N T)) (skips : List Skip) → IsOnlyReaper j xs → IsOnlyReaper j (xs ++ piece_of k false acts skips)
more_only j k [] [] skips only = tt
more_only j k [] (act ∷ acts) skips only = ((λ reaps. absurd (true≢false (sym reaps))), tt)
more_only j k (x ∷ xs) acts skips only = (only.0, more_only j k xs acts skips only.1)

-- an item more tells an identity that a peer may say, if any
pub tells_more : {N T : Type 0} (items : List (Item N T)) (item : Item N T) → TellIdentities items → TellIdentities (item ∷ []) → TellIdentities (items ++ item ∷ [])
tells_more [] item tells one = one
tells_more (Event entry ∷ items) item tells one = (tells.0, tells_more items item tells.1 one)
tells_more (Seen sight ∷ items) item tells one = tells_more items item tells one

-- what was told, and stands, with items in order
record GoesOn {S O I N T : Type 0} (K : Known S O I N) (pipes : S) (pieces : List (Piece N T)) (marks : List PieceMark) (items : List (Item N T)) : Type 0 where
  all : all_told marks ≡ length items
  stands : CoreStands K items pipes (pieces_told marks (moments_from (begun 1) items))
  are : pieces_told marks (moments_from (begun 1) items) ≡ pieces

module _ {S O I N T : Type 0} (K : Known S O I N) (asides : AsidesGoOn K T) (tales : TalesGoOn N T) (v : Core S (Given N O I) N T) (item : Item N T) (k : ℕ) (is : IsCore K v)
    (run : IsControlRun (begun 1) (v.desk.items ++ item ∷ [])) (aside : FitsItem (after_all v.desk.items (begun 1)) item → IsAside v.desk.items item) where
  abbrev items : List (Item N T)
  items = v.desk.items

  abbrev m : Moment N T
  m = next_moment items item

  abbrev pieces : List (Piece N T)
  pieces = pieces_in v ++ piece_of k false (acts_said m) []

  left_aside : IsAside items item
  left_aside = aside (last_fits items item (begun 1) run).1

  many : (is : List (Item N T)) (c : Control) → length (moments_from c is) ≡ length is
  many [] c = refl
  many (x ∷ is) c = omega (arith, many is (after_item x c))

  goes_on : GoesOn K v.pipes pieces (v.marks ++ item_marks k) (items ++ item ∷ [])
  goes_on =
      let moments = moments_from (begun 1) items in
      let told : all_told v.marks ≡ length moments = is.all ∙ sym (many items (begun 1)) in
      let tale = tales v.marks moments k false (Said m ∷ []) [] told in
      let same = moments_more items item (begun 1) in
      let alone = said_alone m left_aside.pairs in
      let piece : piece_of k false (Said m ∷ []) [] ≡ piece_of k false (acts_said m) [] = ap (λ (acts : List (Act N T)). piece_of k false acts []) (sym alone) in
      let are : pieces_told (v.marks ++ item_marks k) (moments_from (begun 1) (items ++ item ∷ [])) ≡ pieces =
      ap (λ (ms : List (Moment N T)). pieces_told (v.marks ++ item_marks k) ms) same ∙ tale.0 ∙ ap (λ (ps : List (Piece N T)). pieces_in v ++ ps) piece in
      let stands = asides items item k v.pipes (pieces_in v) (last_fits items item (begun 1) run).0 (last_fits items item (begun 1) run).1 left_aside is.stands in record {
        all = tale.1 ∙ ap length (sym same) ∙ many (items ++ item ∷ []) (begun 1);
        stands = subst (λ (ps : List (Piece N T)). CoreStands K (items ++ item ∷ []) v.pipes ps) (sym are) stands;
        are = are;
      }

  -- the core with another desk and what is told more
  module _ (d : Lent (Given N O I) N T) (marks : List PieceMark) (one : d.past.workers ≡ 1) (order : d.items ≡ v.desk.items ++ item ∷ []) (told : marks ≡ v.marks ++ item_marks k) where
    there : GoesOn K v.pipes pieces marks d.items
    there =
        subst (λ (ms : List PieceMark). GoesOn K v.pipes pieces ms d.items) (sym told)
        (subst (λ (is : List (Item N T)). GoesOn K v.pipes pieces (v.marks ++ item_marks k) is) (sym order) goes_on)

    same_names : name_of d.items ≡ name_of v.desk.items
    same_names = ap name_of order ∙ names_more v.desk.items item left_aside.names

    pub core_goes_on : TellIdentities (item ∷ []) → IsOneItem (for_caller k v.desk) (for_caller k d) item → IsCore K (core_of d v.pipes marks v.wanted)
    core_goes_on tells adds = record {
      one = one;
      all = there.all;
      stands = there.stands;
      exact = is.exact;
      distinct = subst (λ (f : PipeId → Option N). AreDistinct K.exact f) (sym same_names) is.distinct;
      there = subst (λ (f : PipeId → Option N). (p : PipeId) (n : N) → f p ≡ Some n → IsThere K v.pipes n) (sym same_names) is.there;
      identities = subst TellIdentities (sym order) (tells_more v.desk.items item is.identities tells);
      unsealed = (keeps_unsealed K T).aside (for_caller k v.desk) (for_caller k d) item (record { adds = adds; aside = left_aside }) v.pipes is.unsealed;
    }

    some_act : acts_said m ≡ [] → ⊥
    some_act none = let few : 1 ≡ 0 = ap (λ (acts : List (Act N T)). length acts) (sym (said_alone m left_aside.pairs) ∙ none) in omega (arith, few)

    module _ (closed : ClosedSockets N O I) (were : HasClosed K v closed) (leaves : LeavesSockets k v.desk d) (adds : IsOneItem (for_caller k v.desk) (for_caller k d) item) (silent : hears_none item ≡ true) where
      reaps_still : (j : ℕ) → IsOnlyReaper j (pieces_told marks (moments_from (begun 1) d.items)) → HasWhatTheySay j (moments_at j d) (holding_in K.out_name K.in_name closed)
      reaps_still j only = by (k == j) refl
        where
          before : IsOnlyReaper j (pieces_in v)
          before = first_only j (pieces_in v) (piece_of k false (acts_said m) []) (subst (λ (ps : List (Piece N T)). IsOnlyReaper j ps) there.are only)

          by : (b : Bool) → (k == j) ≡ b → HasWhatTheySay j (moments_at j d) (holding_in K.out_name K.in_name closed)
          by true e =
              let same : k ≡ j = eqb-true k j e in
              subst (λ (n : ℕ). HasWhatTheySay n (moments_at n d) (holding_in K.out_name K.in_name closed)) same
              (leaves.has (holding_in K.out_name K.in_name closed) (subst (λ (n : ℕ). HasWhatTheySay n (moments_at n v.desk) (holding_in K.out_name K.in_name closed)) (sym same) (were.reaper j before)))
          by false e =
              subst (λ (ms : List (Moment N T)). HasWhatTheySay j ms (holding_in K.out_name K.in_name closed)) (sym (leaves.others j (λ same. true≢false (sym (eq-eqb k j same) ∙ e)))) (were.reaper j before)

      asked_yet : (gs : List (Given N O I)) → AllAsked (control_of v.desk.past) gs → AllAsked (control_of d.past) gs
      asked_yet gs =
          All-weaker (λ (g : Given N O I). g.sealed ≡ true → WereAsked (control_of v.desk.past) (g.end ∷ [])) (λ (g : Given N O I). g.sealed ≡ true → WereAsked (control_of d.past) (g.end ∷ []))
          (λ g were_so sealed. asked_still (control_of v.desk.past) (control_of d.past) leaves.pairs leaves.places (g.end ∷ []) (were_so sealed)) gs

      pub closed_goes_on : HasClosed K (core_of d v.pipes marks v.wanted) closed
      closed_goes_on = record {
        some_reaper = record {
          caller = were.some_reaper.caller;
          only = subst (λ (ps : List (Piece N T)). IsOnlyReaper were.some_reaper.caller ps) (sym there.are) (more_only were.some_reaper.caller k (pieces_in v) (acts_said m) [] were.some_reaper.only);
        };
        reaper = reaps_still;
        sound = were.sound;
        indexed = were.indexed;
        given = subst (λ (gs : List (Given N O I)). AreGivenWith K v.pipes gs) (sym leaves.given) were.given;
        asked = asked_yet (all_ends closed.sockets.items) were.asked;
        given_asked = subst (λ (gs : List (Given N O I)). AllAsked (control_of d.past) gs) (sym leaves.given) (asked_yet v.desk.past.given were.given_asked);
        taken = (keeps_taken (Given N O I) N T).aside (for_caller k v.desk) (for_caller k d) item adds silent (holding_in K.out_name K.in_name closed) were.taken;
        apart = λ j only.
            apart_still (for_caller k v.desk) (for_caller k d) adds.before adds.behind (grows_one (for_caller k v.desk) (for_caller k d) item adds) j (pieces_in v) [] (acts_said m) (λ none. absurd (some_act none))
            (subst (λ (ps : List (Piece N T)). OnlyReaps j ps) there.are only) (were.apart j);
      }

    drops_stay : (drops : List ℕ) → HasDrops v drops → HasDrops (core_of d v.pipes marks v.wanted) drops
    drops_stay drops has not_wanted =
        subst (λ (ps : List (Piece N T)). CountsDrops drops ps) (sym there.are) ((tables_go_on N T).none drops (pieces_in v) k false (acts_said m) (has not_wanted))

    pub pieces_more : pieces_told marks (moments_from (begun 1) d.items) ≡ pieces_in v ++ piece_of k false (acts_said m) []
    pieces_more = there.are

    pub one_said : acts_said m ≡ Said m ∷ []
    one_said = said_alone m left_aside.pairs

-- ---- what they are to the run

module _ {S O I N T : Type 0} (K : Known S O I N) (asides : AsidesGoOn K T) (tales : TalesGoOn N T) (v : Core S (Given N O I) N T) (lent d : Lent (Given N O I) N T) (by : ℕ) (is : IsCore K v) (is_lent : lent ≡ record v.desk { caller = by })
    (order : IsOneOrder d) (was : IsOneOrder v.desk) (keeps : KeepsAside lent d) (marks : List PieceMark) (told : marks ≡ v.marks ++ item_marks by) where
  module _ (looks : LooksAreAsides N T) (sight : Sight) (sees : Sees Nothing sight lent d) where
    at : Next v d (Seen sight)
    at = next_look v lent d by is.one is_lent order sight sees

    aside : FitsItem {N = N} {S = T} (after_all v.desk.items (begun 1)) (Seen sight) → IsAside v.desk.items (Seen sight)
    aside fits = looks v.desk.items sight

    adds_look : IsOneItem (for_caller by v.desk) (for_caller by d) (Seen sight)
    adds_look = one_item v.desk d was order by (Seen sight) is.one at.one at.order (sees.by ∙ ap (λ (l : Lent (Given N O I) N T). l.caller) is_lent)

    pub look_sound : (closed : ClosedSockets N O I) (drops : List ℕ) → HasClosed K v closed × HasDrops v drops → IsSound K (core_of d v.pipes marks v.wanted) closed drops
    look_sound closed drops were = (
      core_goes_on K asides tales v (Seen sight) by is at.run aside d marks at.one at.order told tt adds_look,
      (
        closed_goes_on K asides tales v (Seen sight) by is at.run aside d marks at.one at.order told closed were.0 (look_leaves v lent d by is.one is_lent was order keeps looks sight sees) adds_look refl,
        drops_stay K asides tales v (Seen sight) by is at.run aside d marks at.one at.order told drops were.1,
      ),
    )

    pub look_once : LooksOnce by sight.root (pieces_in v) (pieces_told marks (moments_from (begun 1) d.items))
    look_once = record {
      seen = next_moment v.desk.items (Seen sight);
      look = record { sight = sight; empty_is = sees.looked_at; item_is = refl };
      root_is = refl;
      adds = record {
        added = pieces_more K asides tales v (Seen sight) by is at.run aside d marks at.one at.order told
            ∙ ap (λ (acts : List (Act N T)). pieces_in v ++ piece_of by false acts []) (one_said K asides tales v (Seen sight) by is at.run aside d marks at.one at.order told);
        by = (sees.by ∙ ap (λ (l : Lent (Given N O I) N T). l.caller) is_lent, tt);
      };
    }

  module _ (req : Req) (reply : Reply) (asks : Asks req reply lent d) (aside_of : Fits (after_all v.desk.items (begun 1)) (DidAsk req reply asks.answered) → IsAside v.desk.items (Event (record { by = lent.caller; did = DidAsk req reply asks.answered }))) where
    abbrev asked : Item N T
    asked = Event (record { by = lent.caller; did = DidAsk req reply asks.answered })

    at_ask : Next v d asked
    at_ask = next_ask v lent d by is.one is_lent order req reply asks

    adds_ask : IsOneItem (for_caller by v.desk) (for_caller by d) asked
    adds_ask = one_item v.desk d was order by asked is.one at_ask.one at_ask.order (ap (λ (l : Lent (Given N O I) N T). l.caller) is_lent)

    pub ask_sound : TellsIdentity req → LeavesSockets by v.desk d → (closed : ClosedSockets N O I) (drops : List ℕ) → HasClosed K v closed × HasDrops v drops → IsSound K (core_of d v.pipes marks v.wanted) closed drops
    ask_sound tells leaves closed drops were = (
      core_goes_on K asides tales v asked by is at_ask.run aside_of d marks at_ask.one at_ask.order told (tells, tt) adds_ask,
      (
        closed_goes_on K asides tales v asked by is at_ask.run aside_of d marks at_ask.one at_ask.order told closed were.0 leaves adds_ask refl,
        drops_stay K asides tales v asked by is at_ask.run aside_of d marks at_ask.one at_ask.order told drops were.1,
      ),
    )

    pub ask_asked : IsAsked by req reply v.desk d
    ask_asked = record {
      answered = asks.answered;
      items = at_ask.order ∙ ap (λ (k : ℕ). let item : Item N T = Event (record { by = k; did = DidAsk req reply asks.answered }) in v.desk.items ++ item ∷ []) (ap (λ (l : Lent (Given N O I) N T). l.caller) is_lent);
      order = order;
      one = at_ask.one;
    }

    pub ask_once : Requests by req reply d.items (pieces_in v) (pieces_told marks (moments_from (begun 1) d.items))
    ask_once = record {
      asked = next_moment v.desk.items asked;
      request = record { by = lent.caller; answered = asks.answered; item_is = refl };
      left = sym (ap (λ (xs : List (Item N T)). after_all xs (begun 1)) at_ask.order ∙ state_more v.desk.items asked (begun 1));
      adds = record {
        added = pieces_more K asides tales v asked by is at_ask.run aside_of d marks at_ask.one at_ask.order told;
        by = subst (λ (acts : List (Act N T)). AreActsBy by acts) (sym (one_said K asides tales v asked by is at_ask.run aside_of d marks at_ask.one at_ask.order told)) (ap (λ (l : Lent (Given N O I) N T). l.caller) is_lent, tt);
      };
    }

-- ---- what stands

pub core_known : {S O I G N T : Type 0} (K : Known S O I N) (v : Core S G N T) → IsCore K v → IsOneOrder v.desk → CoresAreOrderly K T → IsOrderly (pieces_in v) v.desk.items
core_known {N = N} {T = T} K v is order law =
    law v.desk.items v.pipes (pieces_in v)
    (subst (λ (n : ℕ). IsControlRun (begun n) v.desk.items) is.one order.order.run)
    order.order.named
    (subst (λ (n : ℕ). AreBy [] (begun n) v.desk.items) is.one order.order.by)
    (subst (λ (n : ℕ). (p : PipeId) → pipe_capacity (after_all v.desk.items (begun n)) p ≤ most_commits) is.one (small_pipes v.desk order)) is.stands

-- ---- a core that is lent to another caller

module _ {S O I N T : Type 0} (K : Known S O I N) where
  pub lent_core : (v : Core S (Given N O I) N T) (closed : ClosedSockets N O I) (drops : List ℕ) (d : Lent (Given N O I) N T) (k : ℕ) → d ≡ record v.desk { caller = k } → IsSound K v closed drops → IsSound K (core_of d v.pipes v.marks v.wanted) closed drops
  lent_core v closed drops d k lent sound =
      let is = sound.0 in
      let has = sound.1.0 in
      subst (λ (l : Lent (Given N O I) N T). IsSound K (core_of l v.pipes v.marks v.wanted) closed drops) (sym lent) (
        record { one = is.one; all = is.all; stands = is.stands; exact = is.exact; distinct = is.distinct; there = is.there; identities = is.identities; unsealed = is.unsealed },
        (
          record { some_reaper = has.some_reaper; reaper = has.reaper; sound = has.sound; indexed = has.indexed; given = has.given; asked = has.asked; given_asked = has.given_asked; taken = has.taken; apart = has.apart },
          sound.1.1,
        ),
      )
