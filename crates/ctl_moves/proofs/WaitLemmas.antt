-- What a connect that waits for its name does.
use Rattle.std.specs.Prelude.{◌≡◌, ◌<◌, ◌+◌, ◌-◌, ◌++◌, ◌∷◌, [], ℕ, List, None, length, slice_set}
use Rattle.std.proofs.Common.{arith, ap, ◌∙◌, subst}
use Rattle.std.proofs.lemmas.List.{set-set, set-get_or, get_or-set_same}
use Rattle.zq_base.specs.declared.endpoint.Endpoint.{Endpoint}
use Rattle.zq_base.specs.declared.ids.ObjId.{ObjId}
use Rattle.zq_base.specs.declared.kind.Kind.{Kind}
use Rattle.spec_control.specs.Hold.{Waits}
use Rattle.spec_control.specs.Rows.{obj}
use Rattle.spec_control.specs.Control.{Control}
use Rattle.spec_control.specs.After.{Answers, connects_to, kind_of, with_hold}
use Rattle.ctl_state.specs.declared.belongings.Belongings.{Belongings}
use Rattle.ctl_state.specs.declared.state.State.{State}
use Rattle.ctl_state.specs.Listed.{with_room, without_room}
use Rattle.ctl_state.specs.Lists.{no_belongings, belongings_at, with_holds}
use Rattle.ctl_state.specs.Parts.{on_lists}
use Rattle.ctl_state.specs.Stands.{Stands, names_by, waits_by}

-- room that was given back
with_back : (lists : List Belongings) (i more : ℕ) → i < length lists → with_holds (without_room more) i (with_holds (with_room more) i lists) ≡ lists
with_back lists i more there =
    set-set lists i roomier _
    ∙ ap (λ (b : Belongings). slice_set lists i (record b { holds = without_room more b.holds })) (get_or-set_same lists i roomier no_belongings there)
    ∙ ap (λ (n : ℕ). slice_set lists i (record mine { holds = record mine.holds { spare = n } })) (let e : mine.holds.spare + more - more ≡ mine.holds.spare = omega arith in e)
    ∙ set-get_or lists i no_belongings
  where
    mine : Belongings
    mine = belongings_at lists i

    roomier : Belongings
    roomier = record mine { holds = with_room more mine.holds }

module _ {L : Type 0} where
  pub holds_back : (old mid now last : State L) (i more : ℕ) → i < length old.objects.lists → mid ≡ on_lists (with_holds (with_room more) i) old → now ≡ mid → last ≡ on_lists (with_holds (without_room more) i) now → last ≡ old
  holds_back old mid now last i more there kept same given =
      given ∙ ap (on_lists (with_holds (without_room more) i)) (same ∙ kept)
      ∙ ap (λ (ls : List Belongings). on_lists (λ _. ls) old) (with_back old.objects.lists i more there)

  -- room that was kept for a hold is there
  pub room_kept : (old mid now : State L) (i more : ℕ) → 0 < more → i < length old.objects.lists → mid ≡ on_lists (with_holds (with_room more) i) old → now.objects.lists ≡ mid.objects.lists → 0 < (belongings_at now.objects.lists i).holds.spare
  room_kept old mid now i more some there kept same =
      let is = ap (λ (ls : List Belongings). (belongings_at ls i).holds.spare) (same ∙ ap (λ (x : State L). x.objects.lists) kept) in
      let read = ap (λ (b : Belongings). b.holds.spare) (get_or-set_same old.objects.lists i roomier no_belongings there) in
      omega (arith, is, read, some)
    where
      roomier : Belongings
      roomier = record (belongings_at old.objects.lists i) { holds = with_room more (belongings_at old.objects.lists i).holds }

  -- the connect waits, by a copy of its name
  pub waits_now : (s : State L) (b : Control) (socket : ObjId) (at copy : Endpoint) (kind : Kind) (h : Answers) → copy ≡ at → kind ≡ kind_of (obj b.rows socket.0).kind →
      Stands s (with_hold socket.0 (Waits copy) (names_by (waits_by (λ ws. ws ++ record { at = at; waiter = socket; kind = kind } ∷ [])) b)) → Stands s (connects_to socket.0 at None h b)
  waits_now s b socket at copy kind h same is stands =
      subst (λ (e : Endpoint). Stands s (with_hold socket.0 (Waits e) (names_by (waits_by (λ ws. ws ++ record { at = at; waiter = socket; kind = kind_of (obj b.rows socket.0).kind } ∷ [])) b))) same
      (subst (λ (k : Kind). Stands s (with_hold socket.0 (Waits copy) (names_by (waits_by (λ ws. ws ++ record { at = at; waiter = socket; kind = k } ∷ [])) b))) is stands)
