-- A lent socket behind a look into its mailbox, which was empty: the look alone was noted.
use Rattle.std.proofs.Common.{◌≡◌, ◌∙◌, ◌+◌, ◌++◌, ◌∷◌, [], inl, ℕ, false, List, append-nil, Option, Some, None, refl, sym, ap, subst, true≢false, arith}
use Rattle.std.specs.Prelude.{flat_map}
use Rattle.std.proofs.lemmas.List.{append_cancel_left, map-append}
use Rattle.zq_base.specs.declared.ids.EndId.{EndId}
use Rattle.zq_base.specs.declared.kind.Kind.{Kind}
use Rattle.spec_control.specs.declared.end.EndState.{EndState}
use Rattle.spec_control.specs.declared.entry.Item.{Item}
use Rattle.spec_control.specs.declared.entry.Item.TheVariants.{Event, Seen}
use Rattle.spec_control.specs.declared.entry.SeenEmpty.TheVariants.{Mailbox}
use Rattle.spec_control.specs.declared.entry.Sight.{Sight}
use Rattle.spec_control.specs.Control.{Control, begun, met_in, place_of}
use Rattle.spec_control.specs.Has.{has_over, has_then}
use Rattle.spec_control.specs.Held.{Held, ends_over, ends_then}
use Rattle.spec_control.specs.Moments.{Moment, items_in, left_after, left_by, left_over, left_then}
use Rattle.ctl_moves.proofs.TurnedLemmas.{in_none}
use Rattle.ctl_plane.specs.Past.{Past}
use Rattle.desk.specs.Holding.{HearsMore, Holding, JoinsBy}
use Rattle.desk.specs.Joins.{KeepsObjects}
use Rattle.spec_control.specs.Rows.{obj}
use Rattle.plain_desk.proofs.HoldLemmas.{no_plug_between}
use Rattle.desk.specs.Lent.{has_writer}
use Rattle.desk.specs.Turns.{TurnsBy, turned_in}
use Rattle.desk.specs.declared.given.Given.{Given}
use Rattle.desk.specs.Desk.{came_with, counts_with, heard_with, slot_after, HasWhatTheySay, KeepsUp, Looks}
use Rattle.desk.specs.Kinds.{kind_in, kind_over}
use Rattle.desk.specs.declared.delivery.Delivery.TheVariants.{Empty}
use Rattle.msg_pipe.specs.Known.{Known}
use Rattle.any_sock.specs.declared.any_sock.AnySock.{AnySock}
use Rattle.any_sock.specs.Over.{over}
use Rattle.sock_core.specs.declared.sock.SockCore.{SockCore}
use Rattle.sock_core.specs.Way.{outs_of}
use Rattle.sock_calls.specs.Calls.{counts_by, holding_of, owner_of}
use Rattle.sock_calls.specs.Passing.{IsPatternOf, Passes}
use Rattle.sock_calls.proofs.CallsLemmas.{done_nothing}
use Rattle.spec_run.specs.OpenSocket.{detach_all}
use Rattle.line_calls.specs.declared.found.Found.TheVariants.{Nothing}
use Rattle.line_socket.specs.Standing.{kind_told}
use Rattle.plain_desk.specs.Lent.{Lent, IsOneOrder, SeesNone, moments_of}
use Rattle.plain_desk.proofs.GrowLemmas.{sees_grow}
use Rattle.plain_desk.proofs.PlaneLemmas.{look_names, looks_once}
use Rattle.line_socket.specs.Owned.{IsLentTo, IsThereFor}
use Rattle.line_socket.specs.Called.{IsCalled}
use Rattle.line_socket.specs.LeadsOwed.{leaves_same}
use Rattle.line_socket.specs.Readers.{readers_from}
use Rattle.line_socket.specs.Ready.{AreTold, IsReady}
use Rattle.line_socket.proofs.TakeLemmas.{has_taken, HasTaken}
use Rattle.line_socket.proofs.ThroughLemmas.{was, is_now}

head_is : {X : Type 0} {x y : X} → x ∷ [] ≡ y ∷ [] → x ≡ y
head_is e = Prim.grind arith

-- no end changes its state
no_turns : (c : Control) → turned_in c c ++ [] ≡ []
no_turns c = append-nil (turned_in c c) ∙ in_none c c (λ e. refl)

module _ {N S : Type 0} (c : Control) (sight : Sight) where
  abbrev look : Moment N S
  look = record { found = c; item = Seen sight }

  -- ---- what the moments say of an object they say behind a look
  has_look : (i : ℕ) (had : Option ℕ) (items : List (Item N S)) → has_over i had (items ++ Seen sight ∷ []) ≡ has_over i had items
  has_look i had [] = refl
  has_look i had (x ∷ items) = has_look i (has_then i x had) items

  ends_look : (i : ℕ) (hs : List (Held N)) (items : List (Item N S)) → ends_over i hs (items ++ Seen sight ∷ []) ≡ ends_over i hs items
  ends_look i hs [] = refl
  ends_look i hs (x ∷ items) = ends_look i (ends_then i x hs) items

  kind_look : (i : ℕ) (kind : Option Kind) (items : List (Item N S)) → kind_over i kind (items ++ Seen sight ∷ []) ≡ kind_over i kind items
  kind_look i kind [] = refl
  kind_look i kind (Event entry ∷ items) = kind_look i (kind_in i entry.did kind) items
  kind_look i kind (Seen other ∷ items) = kind_look i kind items

  left_look : (i : ℕ) (d : Control) (ms : List (Moment N S)) → left_over i d (ms ++ look ∷ []) ≡ left_over i d ms
  left_look i d [] = refl
  left_look i d (m ∷ ms) = left_look i (left_then i m d) ms

  module _ (ms now : List (Moment N S)) (more : now ≡ ms ++ look ∷ []) where
    items_now : items_in now ≡ items_in ms ++ Seen sight ∷ []
    items_now = ap items_in more ∙ map-append (λ (m : Moment N S). m.item) ms (look ∷ [])

    left_now : (i : ℕ) → left_after i now ≡ left_after i ms
    left_now i = ap (left_after i) more ∙ left_look i (begun 0) ms

    -- the look is the one moment more
    pub only_look : (xs : List (Moment N S)) → now ≡ ms ++ xs → look ∷ [] ≡ xs
    only_look xs e = append_cancel_left ms (look ∷ []) xs (sym more ∙ e)

    module _ (by : ℕ) (h : Holding N) (say : HasWhatTheySay by ms h) where
      says_still : HasWhatTheySay by now h
      says_still = record {
        objects = λ i held. ap (has_over i None) items_now ∙ has_look i None (items_in ms) ∙ say.objects i held;
        no_root = say.no_root;
        ends = λ i held. say.ends i held ∙ sym (ap (ends_over i []) items_now ∙ ends_look i [] (items_in ms));
        writes = λ i e held here. say.writes i e held here ∙ ap (λ (d : Control). has_writer (place_of d e)) (sym (left_now i));
        delimiters = λ i e held here met. say.delimiters i e held here (ap (λ (d : Control). met_in (place_of d e) (d.reasons e)) (sym (left_now i)) ∙ met);
        states = λ i e held here. ap (λ (d : Control). place_of d e) (left_now i) ∙ say.states i e held here;
        kinds = λ i held. say.kinds i held ∙ sym (ap (kind_over i None) items_now ∙ kind_look i None (items_in ms));
      }

      -- a holder that is told nothing keeps up with it
      pub keeps_up : KeepsUp by ms now h h
      keeps_up = record {
        has = says_still;
        turned = λ xs e. subst (λ (l : List (Moment N S)). TurnsBy (flat_map (λ m. turned_in m.found (left_by m)) l) h h) (only_look xs e)
            (subst (λ (ts : List (EndId × EndState)). TurnsBy ts h h) (sym (no_turns c)) (record { turns = sym (append-nil h.turns); sealed = sym (append-nil h.sealed) }));
        came = λ xs e. subst (λ (l : List (Moment N S)). JoinsBy (flat_map (λ m. came_with m.item) l) h h) (only_look xs e) (sym (append-nil h.joined));
        objects = record {
          one = λ m e. subst (λ (x : Moment N S). KeepsObjects x.found (left_by x) h h) (head_is (only_look (m ∷ []) e)) (record {
            holds = λ i stays. refl;
            kinds = λ i stays. refl;
            had = λ i held. inl (held, refl);
            reaped = λ i between taken lives. absurd (true≢false (sym between ∙ taken));
            taken_in = λ i came. absurd (true≢false (sym came ∙ no_plug_between (obj c.rows i)));
          });
          none = λ e i. (refl, refl);
        };
        heard = λ xs e. subst (λ (l : List (Moment N S)). HearsMore (flat_map (λ m. heard_with m.item m.found (left_by m)) l) h h) (only_look xs e) (sym (append-nil h.heard));
      }

    -- and the state of its kind stays
    pub passes_look : {W O I : Type 0} (s : Option (SockCore AnySock W N O I)) (xs : List (Moment N S)) → now ≡ ms ++ xs → Passes over s s xs
    passes_look s xs e = subst (λ (l : List (Moment N S)). Passes over s s l) (only_look xs e) (λ still p is. record {
      pattern_is = subst (λ (ts : List (EndId × EndState)). IsPatternOf over (detach_all (outs_of ts) p) s) (sym (no_turns c)) is;
      answered = λ can. tt;
    })

module _ {W N O I S T : Type 0} (K : Known S O I N) (pipes : S) (d e : Lent (Given N O I) N T) (n : ℕ) (order : IsOneOrder e) where
  module _ (s : SockCore AnySock W N O I) (is : IsLentTo K pipes d n s) (finds : SeesNone (slot_after s.number.0 (moments_of d)) d e) where
    abbrev looks : Looks d.caller (Mailbox (slot_after s.number.0 (moments_of d))) finds.sight (moments_of d) (moments_of e)
    looks = looks_once d e (Mailbox (slot_after s.number.0 (moments_of d))) finds.sight finds.sees

    looked_called : IsCalled K false (λ x written read. ⊥) pipes d (Some s) pipes e (Some s)
    looked_called = record {
      grows = sees_grow d e (Mailbox (slot_after s.number.0 (moments_of d))) finds.sight finds.sees;
      order = order;
      names = look_names d e (Mailbox (slot_after s.number.0 (moments_of d))) finds.sight finds.sees;
      keeps = subst (λ (k : ℕ). KeepsUp k (moments_of d) (moments_of e) (holding_of kind_told (Some s)) (holding_of kind_told (Some s))) (sym finds.sees.caller)
          (keeps_up looks.found finds.sight (moments_of d) (moments_of e) looks.one_more d.caller (holding_of kind_told (Some s)) is.owned.has);
      owner = refl;
      fits = is.owned.stands.fits;
      others = leaves_same K (Some s) pipes refl;
      does = done_nothing K false (λ x written read. ⊥) pipes (Some s) refl;
    }

    pub looked_so : AreTold (Some s) → IsReady (was K pipes pipes d e n (Some s)) → (k : ℕ) → k ≡ n + 1 → HasTaken K Nothing (was K pipes pipes d e n (Some s)) (is_now K pipes pipes d e n (Some s) k)
    looked_so told ready k more =
        has_taken K pipes pipes d e n (Some s) (Some s) is told ready looked_called (ap (λ (p : Past (Given N O I) N T). p.given) finds.sees.past) (λ whole. whole)
        (passes_look looks.found finds.sight (moments_of d) (moments_of e) looks.one_more (Some s))
        (λ m one. subst (λ (x : Moment N T). counts_with K.out_name (counts_by K pipes (Some s)) (holding_of kind_told (Some s)) x.item) (head_is (only_look looks.found finds.sight (moments_of d) (moments_of e) looks.one_more (m ∷ []) one)) tt)
        Empty (record { sight = finds.sight; looks = looks }) (readers_from (Some s) 0) refl Nothing tt k more

  -- the same of a socket that is there
  pub has_looked : (s : Option (SockCore AnySock W N O I)) → IsThereFor K pipes d n s → AreTold s → IsReady (was K pipes pipes d e n s) → SeesNone (slot_after (owner_of s) (moments_of d)) d e
      → (k : ℕ) → k ≡ n + 1 → HasTaken K Nothing (was K pipes pipes d e n s) (is_now K pipes pipes d e n s k)
  has_looked None is told ready finds k more = absurd is
  has_looked (Some s) is told ready finds k more = looked_so s is finds told ready k more
