-- A holder takes a listener or a session in: what it has then, and which objects.
use Rattle.std.specs.Prelude.{◌≡◌, ◌≢◌, ◌<◌, ◌⊎◌, ◌==◌, ◌&&◌, ◌++◌, ◌∷◌, [], ℕ, Bool, true, false, not, List, Option, Some, None, All, map, length, slice_index_or, if◌then◌else◌, refl}
use Rattle.std.proofs.Common.{sym, ap, ◌∙◌, subst, inl, inr}
use Rattle.std.proofs.lemmas.Bool.{cases_eq, eq-eqb, ne_eqb}
use Rattle.std.proofs.lemmas.List.{append-nil, get_or-set_same, get_or-set_other}
use Rattle.std.proofs.lemmas.List.Elements.{All-nil}
use Rattle.zq_base.specs.declared.ids.EndId.{EndId}
use Rattle.spec_control.specs.declared.end.EndState.{EndState}
use Rattle.spec_control.specs.Row.{Row, nobody, PlugComes, is_socket, link_after}
use Rattle.spec_control.specs.Rows.{obj}
use Rattle.spec_control.specs.Stage.{is_coming}
use Rattle.spec_control.specs.Control.{Control}
use Rattle.spec_control.specs.ControlRun.{is_between}
use Rattle.spec_control.specs.Held.{Held}
use Rattle.control_laws.proofs.ListLemmas.{never, clash, left, right, and, is_false, placed}
use Rattle.desk.specs.declared.halves.Halves.{Halves}
use Rattle.desk.specs.Holding.{BeginsActive, Holding, IsPlugged, Joined, KeepsTurns, Stays, has_end, held_with}
use Rattle.desk.specs.Joins.{IsReaped, IsTakenIn, KeepsObjects, is_plugged_between}
use Rattle.desk.specs.Lent.{HasAll, HasBothNames, HasEnds}
use Rattle.desk.specs.Turns.{HasTurned, TurnsBy}
use Rattle.ctl_moves.specs.Plugging.{HasTakenIn, PlugsAt, plugged}
use Rattle.ctl_moves.proofs.HolderLemmas.{has_same, has_stayed}
use Rattle.ctl_moves.proofs.TurnedLemmas.{in_none}

-- ---- the holder with the object, before its end came
module _ {N : Type 0} (at : ℕ) (h k : Holding N) where
  -- what it had, and the object without an end
  abbrev pub endless : Holding N
  endless = record h { holds = k.holds; ends = λ i. if i == at then [] else h.ends i; kind = k.kind; output_left = k.output_left; at_delimiter = k.at_delimiter }

  none_here : endless.ends at ≡ []
  none_here = ap (λ (b : Bool). if b then [] else h.ends at) (eq-eqb at at refl)

  as_there : (i : ℕ) → i ≢ at → endless.ends i ≡ h.ends i
  as_there i other = ap (λ (b : Bool). if b then [] else h.ends i) (ne_eqb i at other)

  module _ (names : EndId → Option N) (c : Control) (plugs : PlugsAt c h at) (hs : List (Held N)) (held : IsPlugged at hs h k) (has : HasAll names c h) where
    mine : HasEnds names c.rows.pairs c.attached c.reasons endless at
    mine = record {
      ends = ap (λ (xs : List (Held N)). map (λ x. x.end) xs) none_here ∙ sym plugs.none;
      named = subst (λ (xs : List (Held N)). All (HasBothNames names) xs) (sym none_here) (All-nil (HasBothNames names));
      writes = λ d here. absurd (nobody_here d here);
      delimiters = λ d here met. absurd (nobody_here d here);
      states = λ d here. absurd (nobody_here d here);
    }
      where
        nobody_here : (d : EndId) → has_end d (endless.ends at) ≡ true → ⊥
        nobody_here d here = never (sym (ap (has_end d) none_here) ∙ here)

    theirs : (i : ℕ) → i ≢ at → k.holds i ≡ true → HasEnds names c.rows.pairs c.attached c.reasons endless i
    theirs i other holds = record {
      ends = ap (λ (xs : List (Held N)). map (λ x. x.end) xs) (as_there i other) ∙ was.ends;
      named = subst (λ (xs : List (Held N)). All (HasBothNames names) xs) (sym (as_there i other)) was.named;
      writes = λ d here. was.writes d (were d here);
      delimiters = λ d here met. held.delimiters i d (were d here) (was.delimiters d (were d here) met);
      states = λ d here. was.states d (were d here);
    }
      where
        was : HasEnds names c.rows.pairs c.attached c.reasons h i
        was = has i (sym (held.others i other).0 ∙ holds)

        were : (d : EndId) → has_end d (endless.ends i) ≡ true → has_end d (h.ends i) ≡ true
        were d here = subst (λ (xs : List (Held N)). has_end d xs ≡ true) (as_there i other) here

    has_endless : HasAll names c endless
    has_endless i holds = by (cases_eq i at)
      where
        by : (i ≡ at) ⊎ (i ≡ at → ⊥) → HasEnds names c.rows.pairs c.attached c.reasons endless i
        by (inl same) = subst (λ (n : ℕ). HasEnds names c.rows.pairs c.attached c.reasons endless n) (sym same) mine
        by (inr other) = theirs i other holds

    pub endless_has : HasAll names (plugged at c) endless
    endless_has = has_same names c (plugged at c) endless (record { pairs = refl; attached = refl; reasons = refl }) has_endless

module _ {N O I : Type 0} (out_name : O → N) (in_name : I → N) (at : ℕ) (h k : Holding N) where
  -- the end of a session joined then
  module _ (e : EndId) (halves : Halves O I) (taken : HasTakenIn out_name in_name at (Some (e, halves)) h k) where
    pub end_joined : Joined at (held_with out_name in_name e halves) (endless at h k) k
    end_joined = record {
      now = record {
        ends = taken.held.ends ∙ sym (ap (λ (xs : List (Held N)). xs ++ held_with out_name in_name e halves ∷ []) (none_here at h k));
        others = λ i other. (taken.held.others i other).1.0 ∙ sym (as_there at h k i other);
        objects = λ i. refl;
        kinds = λ i. refl;
        output = λ i. refl;
        delimiters = λ i d here met. met;
      };
      writers = taken.writing;
    }

    pub end_begins : BeginsActive e (endless at h k) k
    end_begins = record { states = taken.begins.states; turns = taken.begins.turns; sealed = taken.begins.sealed }

  -- and none of a listener
  module _ (c : Control) (names : EndId → Option N) (plugs : PlugsAt c h at) (has : HasAll names c h) (taken : HasTakenIn out_name in_name at None h k) where
    stays : Stays at (endless at h k) k
    stays = record {
      now = record {
        ends = taken.held.ends ∙ sym (none_here at h k);
        others = λ i other. (taken.held.others i other).1.0 ∙ sym (as_there at h k i other);
        objects = λ i. refl;
        kinds = λ i. refl;
        output = λ i. refl;
        delimiters = λ i d here met. met;
      };
      writers = taken.writing;
    }

    keeps : KeepsTurns (endless at h k) k
    keeps = record { states = taken.begins.states; turns = taken.begins.turns; sealed = taken.begins.sealed; joined = taken.came ∙ append-nil h.joined }

    pub listener_has : HasAll names (plugged at c) k
    listener_has = has_stayed names (plugged at c) (endless at h k) k at stays keeps (endless_has at h k names c plugs [] taken.held has)

    pub listener_turned : HasTurned c (plugged at c) h k
    listener_turned =
        subst (λ (ts : List (EndId × EndState)). TurnsBy ts h k) (sym (in_none c (plugged at c) (λ e. refl)))
        (record { turns = taken.begins.turns ∙ sym (append-nil h.turns); sealed = taken.begins.sealed ∙ sym (append-nil h.sealed) })

-- ---- its objects
module _ {N : Type 0} (c : Control) (at : ℕ) (h : Holding N) (plugs : PlugsAt c h at) where
  there : at < length c.rows.objects
  there = placed (λ (o : Row). o.plugged) c.rows.objects nobody at refl (is_false (obj c.rows at).plugged plugs.comes)

  pub plugged_row : obj (plugged at c).rows at ≡ link_after PlugComes (obj c.rows at)
  plugged_row = get_or-set_same c.rows.objects at (link_after PlugComes (obj c.rows at)) nobody there

module _ {N : Type 0} (c now : Control) (at : ℕ) (h k l : Holding N) (plugs : PlugsAt c h at) (hs : List (Held N)) (held : IsPlugged at hs h k) (objects_are : now.rows.objects ≡ (plugged at c).rows.objects)
    (holds : (i : ℕ) → l.holds i ≡ k.holds i) (kinds : (i : ℕ) → l.kind i ≡ k.kind i) where
  row_now : obj now.rows at ≡ link_after PlugComes (obj c.rows at)
  row_now = ap (λ (os : List Row). slice_index_or os at nobody) objects_are ∙ plugged_row c at h plugs

  row_else : (i : ℕ) → i ≢ at → obj now.rows i ≡ obj c.rows i
  row_else i other = ap (λ (os : List Row). slice_index_or os i nobody) objects_are ∙ get_or-set_other c.rows.objects at i (link_after PlugComes (obj c.rows at)) nobody other

  came : is_plugged_between (obj c.rows at) (obj now.rows at) ≡ true
  came =
      ap (is_plugged_between (obj c.rows at)) row_now
      ∙ and (not (is_socket (obj c.rows at).kind)) (not (obj c.rows at).plugged && true) (ap not plugs.no_socket) (and (not (obj c.rows at).plugged) true plugs.comes refl)

  -- no other came
  no_other : (o : Row) → is_plugged_between o o ≡ true → ⊥
  no_other o h =
      let both = right (not (is_socket o.kind)) (not o.plugged && o.plugged) h in
      clash o.plugged (right (not o.plugged) o.plugged both) (is_false o.plugged (left (not o.plugged) o.plugged both))

  pub taken_objects : KeepsObjects c now h l
  taken_objects = record {
    holds = λ i stays. not_it i stays.plug {Q = λ n. l.holds n ≡ h.holds n} (λ n other. holds n ∙ (held.others n other).0);
    kinds = λ i stays. not_it i stays.plug {Q = λ n. l.kind n ≡ h.kind n} (λ n other. kinds n ∙ (held.others n other).1.1);
    had = λ i has. had i has (cases_eq i at);
    reaped = λ i between taken lives. absurd (none_reaped i between taken (cases_eq i at));
    taken_in = λ i plug. here i plug (cases_eq i at);
  }
    where
      not_it : (i : ℕ) → is_plugged_between (obj c.rows i) (obj now.rows i) ≡ false → {Q : ℕ → Type 0} → ((n : ℕ) → n ≢ at → Q n) → Q i
      not_it i none rest =
          elim (cases_eq i at) [
            | inl same ↦ absurd (clash (is_plugged_between (obj c.rows at) (obj now.rows at)) came (subst (λ (n : ℕ). is_plugged_between (obj c.rows n) (obj now.rows n) ≡ false) same none))
            | inr other ↦ rest i other
          ]

      had : (i : ℕ) → l.holds i ≡ true → (i ≡ at) ⊎ (i ≡ at → ⊥) →
          ((h.holds i ≡ true) × (l.kind i ≡ h.kind i)) ⊎ (IsReaped (obj c.rows i) (obj now.rows i) (l.kind i) ⊎ IsTakenIn (obj c.rows i) (obj now.rows i) (l.kind i))
      had i has (inl same) = inr (inr (record {
        came = subst (λ (n : ℕ). is_plugged_between (obj c.rows n) (obj now.rows n) ≡ true) (sym same) came;
        none = kinds i ∙ ap k.kind same ∙ held.no_kind;
      }))
      had i has (inr other) = inl (sym (holds i ∙ (held.others i other).0) ∙ has, kinds i ∙ (held.others i other).1.1)

      none_reaped : (i : ℕ) → is_between (obj c.rows i) ≡ true → is_between (obj now.rows i) ≡ false → (i ≡ at) ⊎ (i ≡ at → ⊥) → ⊥
      none_reaped i between taken (inl same) =
          clash (is_socket (obj c.rows at).kind) (left (is_socket (obj c.rows at).kind) (is_coming (obj c.rows at).request) (subst (λ (n : ℕ). is_between (obj c.rows n) ≡ true) same between)) plugs.no_socket
      none_reaped i between taken (inr other) = clash (is_between (obj c.rows i)) between (sym (ap is_between (row_else i other)) ∙ taken)

      here : (i : ℕ) → is_plugged_between (obj c.rows i) (obj now.rows i) ≡ true → (i ≡ at) ⊎ (i ≡ at → ⊥) → l.holds i ≡ true
      here i plug (inl same) = holds i ∙ ap k.holds same ∙ held.here
      here i plug (inr other) = absurd (no_other (obj c.rows i) (sym (ap (is_plugged_between (obj c.rows i)) (row_else i other)) ∙ plug))
