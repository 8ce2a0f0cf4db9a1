-- The pairs of a bind are made, one after the other: the connects that waited are fulfilled, the longest waiting first (zmq_bind(3), zmq_inproc(7)).
use Rattle.std.specs.Prelude.{◌≡◌, ◌≤◌, ◌<◌, ◌+◌, ◌^◌, ◌==◌, ◌∷◌, [], ℕ, true, false, cond, List, Option, All, map, length, sum_by}
use Rattle.zq_base.specs.declared.endpoint.Endpoint.{Endpoint}
use Rattle.zq_base.specs.declared.ids.EndId.{EndId}
use Rattle.zq_base.specs.declared.ids.ObjId.{ObjId}
use Rattle.spec_control.specs.declared.letter.Word.TheVariants.{PipeBind}
use Rattle.spec_control.specs.declared.end.EndState.TheVariants.{Active}
use Rattle.spec_control.specs.Place.{At, Unmade}
use Rattle.spec_control.specs.Hold.{fulfil}
use Rattle.spec_control.specs.Stage.{has_ended, was_asked}
use Rattle.spec_control.specs.Rows.{obj}
use Rattle.spec_control.specs.Control.{Control, draws, end_of, greet, next_pair, open_pair, place_of}
use Rattle.desk.specs.declared.load.Load.{Load}
use Rattle.desk.specs.Holding.{HearsNone, Holding, Stays, has_end}
use Rattle.desk.specs.Turns.{TurnsBy, turned_over}
use Rattle.ctl_moves.specs.Turning.{PutsLoaded}
use Rattle.ctl_state.specs.declared.state.State.{State}
use Rattle.ctl_state.specs.Boxes.{mail_at}
use Rattle.ctl_state.specs.Lists.{belongings_at}
use Rattle.ctl_state.specs.Stands.{Stands, holds_by}
use Rattle.ctl_moves.specs.Greeting.{MovesOne}
use Rattle.ctl_moves.specs.Joining.{AreNamedHalves}
use Rattle.ctl_moves.specs.declared.batch.Drawn.{Drawn}
use Rattle.ctl_moves.specs.Batch.{AreNames, AreNumbered, behind, first_of, row_of}

module _ {N O I : Type 0} where
  -- a drawn pair is made, and its connect fulfilled
  abbrev pub pair_made : Drawn N O I → Control → Control
  pair_made d c = greet d.answer (first_of d) (open_pair (first_of d) (PipeBind (end_of d.pair.0 true) d.identity) (draws d.o.last.0 d.o.first.0 c))

  abbrev pub fulfilled : Endpoint → Drawn N O I → Control → Control
  fulfilled at d c = holds_by (fulfil at d.pair.0) d.o.last.0 (pair_made d c)

  -- and so are all, in this order
  abbrev pub fulfilled_all : Endpoint → List (Drawn N O I) → Control → Control
  fulfilled_all at [] c = c
  fulfilled_all at (d ∷ ds) c = fulfilled_all at ds (fulfilled at d c)

  -- a pair's making puts two commands at the most, for the connecting socket
  abbrev pub puts_in : Control → ℕ → Drawn N O I → ℕ
  puts_in c m d = cond ((obj c.rows d.o.last.0).slot == m) 2 0

  -- and its bind is on its way to that socket
  abbrev pub bind_for : ℕ → Drawn N O I → ℕ
  bind_for j d = cond (d.o.last.0 == j) 1 0

  -- the first ends of these pairs are where the control state has them, and the holder was told so; else of the ends that it had before none moved, and none joined
  pub record MovesAll (n : ℕ) (f : Control) (ds : List (Drawn N O I)) (h k : Holding N) : Type 0 where
    pub mine : All (λ d. place_of f (first_of d) ≡ At (k.state (first_of d))) ds
    pub others : (j : ℕ) (e : EndId) → e.pair.0 < n → has_end e (k.ends j) ≡ true → k.state e ≡ h.state e
    pub turned : TurnsBy (turned_over (λ e. Unmade) (place_of f) (map first_of ds)) h k
    pub joined : k.joined ≡ h.joined
    pub heard : HearsNone h k

  module _ (out_name : O → N) (in_name : I → N) where
    -- the numbers of these pairs were drawn, all room for them is kept, and the first ends are at the holder; neither the binding socket was asked nor has a waiting one ended
    pub record CanJoin (c : Control) (s : State (Load N O I)) (k : Holding N) (i : ObjId) (ds : List (Drawn N O I)) : Type 0 where
      pub stands : Stands s (behind (map row_of ds) c)
      pub numbers : AreNumbered (next_pair c) ds
      pub owners : All (λ d. d.o.first ≡ i) ds
      pub unasked : was_asked (obj c.rows i.0).stage ≡ false
      pub lives : All (λ d. has_ended (obj c.rows d.o.last.0).stage ≡ false) ds
      pub unstruck : (e : EndId) → next_pair c ≤ e.pair.0 → c.struck e ≡ false
      pub few_objects : length c.rows.objects < 2 ^ 62
      pub few_pairs : length c.rows.pairs + length ds < 2 ^ 30
      pub place : length ds ≤ (belongings_at s.objects.lists i.0).ends.spare
      pub room : (m : ℕ) → sum_by (puts_in c m) ds ≤ (mail_at s.boxes m).spare
      pub has : All (λ d. has_end (first_of d) (k.ends i.0) ≡ true) ds
      pub writes : All (λ d. k.writes (first_of d) ≡ true) ds
      pub active : All (λ d. k.state (first_of d) ≡ Active) ds
      pub halves : All (λ d. AreNamedHalves out_name in_name d.other) ds

    pub record MayJoinAll (s : State (Load N O I)) (k : Holding N) (i : ObjId) (ds : List (Drawn N O I)) : Type 0 where
      pub control : Control
      pub can : CanJoin control s k i ds

    -- a pair is to be made, and others behind it
    pub record MayJoinNext (s : State (Load N O I)) (k : Holding N) (i : ObjId) (d : Drawn N O I) : Type 0 where
      pub control : Control
      pub rest : List (Drawn N O I)
      pub can : CanJoin control s k i (d ∷ rest)

    -- pairs were made, each with its bind put; some ends of the binding socket took their places
    pub record JoinsAll (i : ℕ) (ds : List (Drawn N O I)) (s t : State (Load N O I)) (h k : Holding N) : Type 0 where
      pub stays : Stays i h k
      pub puts : (names : EndId → Option N) → AreNames names ds → PutsLoaded out_name in_name names s.boxes t.boxes
      pub places : (j : ℕ) → (belongings_at s.objects.lists j).ends.spare ≤ (belongings_at t.objects.lists j).ends.spare + cond (i == j) (length ds) 0

    -- the first was, and the others can be
    pub record JoinsNext (at : Endpoint) (c : Control) (i : ObjId) (d : Drawn N O I) (rest : List (Drawn N O I)) (s t : State (Load N O I)) (h k : Holding N) : Type 0 where
      pub can : CanJoin (fulfilled at d c) t k i rest
      pub joins : JoinsAll i.0 (d ∷ []) s t h k
      pub moves : MovesOne (first_of d) Unmade (place_of (fulfilled at d c) (first_of d)) h k
