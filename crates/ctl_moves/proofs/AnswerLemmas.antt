-- What is noted of the pairs of a bind, and that it is what its event says.
use Rattle.std.specs.Prelude.{◌≡◌, ◌<◌, ◌≤◌, ◌+◌, ◌==◌, ◌&&◌, ◌++◌, ◌∷◌, [], ℕ, Bool, true, false, List, Some, None, All, flat_map, if◌then◌else◌, map, slice_index_or, refl}
use Rattle.std.proofs.Common.{arith, ap, ◌∙◌}
use Rattle.std.proofs.lemmas.List.Elements.{All-cons, All-nil}
use Rattle.zq_base.specs.declared.attached.Attached.TheVariants.{Yes}
use Rattle.zq_base.specs.declared.ids.EndId.{EndId}
use Rattle.zq_base.specs.declared.ids.ObjId.{ObjId}
use Rattle.spec_control.specs.declared.book.Waiting.{Waiting}
use Rattle.spec_control.specs.declared.entry.PipeName.{PipeName}
use Rattle.spec_control.specs.Names.{name_in}
use Rattle.spec_control.specs.Rows.{obj}
use Rattle.spec_control.specs.After.{kind_answer}
use Rattle.spec_control.specs.Control.{Control, end_of, is_end}
use Rattle.spec_control.specs.ControlRun.{Joins, all_pipes, attaches, bind_joins, identity_of}
use Rattle.spec_control.specs.Held.{Held, held_as}
use Rattle.control_laws.proofs.AskLemmas.{end_self}
use Rattle.ctl_moves.specs.declared.batch.Drawn.{Drawn}
use Rattle.ctl_moves.specs.Batch.{AreNames, AreNumbered, first_of, held_of, joins_of, opened_of}
use Rattle.ctl_moves.proofs.FulfilLemmas.{AreFor}
use Rattle.ctl_moves.proofs.TakenLemmas.{all_from, other_pair}

less_in : {m n : ℕ} → m + 1 ≤ n → m < n
less_in h = omega (arith, h)

module _ {N O I : Type 0} where
  -- ---- what the kinds answered
  pub answers_are : (c : Control) (n : ℕ) (ds : List (Drawn N O I)) → AreNumbered n ds → All (λ (d : Drawn N O I). kind_answer (map (joins_of c) ds) (first_of d) ≡ d.answer) ds
  answers_are c n [] are = All-nil (λ (d : Drawn N O I). Yes ≡ d.answer)
  answers_are c n (d ∷ ds) are =
      All-cons (λ (x : Drawn N O I). kind_answer (map (joins_of c) (d ∷ ds)) (first_of x) ≡ x.answer) d ds
      (ap (λ (b : Bool). if b then d.answer else kind_answer (map (joins_of c) ds) (first_of d)) (end_self (first_of d)))
      (λ j y lt.
      let x : Drawn N O I = slice_index_or ds j y in
      ap (λ (b : Bool). if b then d.answer else kind_answer (map (joins_of c) ds) (first_of x)) (other_pair (first_of d) (first_of x) (less_in (above j y lt))) ∙ answers_are c (n + 1) ds are.1 j y lt)
    where
      above : All (λ (x : Drawn N O I). d.pair.0 + 1 ≤ x.pair.0) ds
      above = all_from (n + 1) ds are.1 (d.pair.0 + 1) (let is = are.0 in omega (arith, is))

  -- ---- the names of the pipes
  pub names_are : (n : ℕ) (ds : List (Drawn N O I)) → AreNumbered n ds → AreNames (λ e. name_in e (flat_map opened_of ds)) ds
  names_are n [] are = All-nil (λ (d : Drawn N O I). (None ≡ Some d.other.written) × (None ≡ Some d.other.read))
  names_are n (d ∷ ds) are =
      All-cons (λ (x : Drawn N O I). (name_in (end_of x.pair.0 true) (opened_of d ++ flat_map opened_of ds) ≡ Some x.other.written) × (name_in (first_of x) (opened_of d ++ flat_map opened_of ds) ≡ Some x.other.read)) d ds
      (written, read) (λ j y lt.
      let x : Drawn N O I = slice_index_or ds j y in
      let rest = names_are (n + 1) ds are.1 j y lt in
      (past (end_of x.pair.0 true) (less_in (above j y lt)) ∙ rest.0, past (first_of x) (less_in (above j y lt)) ∙ rest.1))
    where
      above : All (λ (x : Drawn N O I). d.pair.0 + 1 ≤ x.pair.0) ds
      above = all_from (n + 1) ds are.1 (d.pair.0 + 1) (let is = are.0 in omega (arith, is))

      rest_of : List (PipeName N)
      rest_of = flat_map opened_of ds

      past : (e : EndId) → d.pair.0 < e.pair.0 → name_in e (opened_of d ++ flat_map opened_of ds) ≡ name_in e (flat_map opened_of ds)
      past e less =
          ap (λ (b : Bool). if b then Some d.other.written else (if is_end e (end_of d.pair.0 false) then Some d.other.read else name_in e rest_of)) (other_pair (end_of d.pair.0 true) e less)
          ∙ ap (λ (b : Bool). if b then Some d.other.read else name_in e rest_of) (other_pair (end_of d.pair.0 false) e less)

      written : name_in (end_of d.pair.0 true) (opened_of d ++ flat_map opened_of ds) ≡ Some d.other.written
      written = ap (λ (b : Bool). if b then Some d.other.written else (if is_end (end_of d.pair.0 true) (end_of d.pair.0 false) then Some d.other.read else name_in (end_of d.pair.0 true) rest_of)) (end_self (end_of d.pair.0 true))

      read : name_in (end_of d.pair.0 false) (opened_of d ++ flat_map opened_of ds) ≡ Some d.other.read
      read =
          ap (λ (b : Bool). if b then Some d.other.written else (if is_end (end_of d.pair.0 false) (end_of d.pair.0 false) then Some d.other.read else name_in (end_of d.pair.0 false) rest_of)) (and_false (d.pair.0 == d.pair.0))
          ∙ ap (λ (b : Bool). if b then Some d.other.read else name_in (end_of d.pair.0 false) rest_of) (end_self (end_of d.pair.0 false))
        where
          and_false : (b : Bool) → (b && false) ≡ false
          and_false true = refl
          and_false false = refl

  -- ---- the ends that join, and the pipes that are opened
  pub joins_are : (c : Control) (n : ℕ) (ws : List Waiting) (ds : List (Drawn N O I)) → AreFor ws ds → AreNumbered n ds →
      map (λ j. let x : Joins = record { end = j.end; peer = j.peer; met = j.met } in x) (map (joins_of c) ds) ≡ bind_joins c n ws
  joins_are c n [] [] are numbers = refl
  joins_are c n [] (d ∷ ds) are numbers = absurd are
  joins_are c n (w ∷ ws) [] are numbers = absurd are
  joins_are c n (w ∷ ws) (d ∷ ds) are numbers =
      ap (λ (k : ℕ). attaches (end_of k false) (obj c.rows d.o.last.0).options.id ∷ map (λ j. let x : Joins = record { end = j.end; peer = j.peer; met = j.met } in x) (map (joins_of c) ds)) numbers.0
      ∙ ap (λ (o : ObjId). attaches (end_of n false) (obj c.rows o.0).options.id ∷ map (λ j. let x : Joins = record { end = j.end; peer = j.peer; met = j.met } in x) (map (joins_of c) ds)) are.0
      ∙ ap (λ (js : List Joins). attaches (end_of n false) (identity_of c w.waiter.0) ∷ js) (joins_are c (n + 1) ws ds are.1 numbers.1)

  pub pipes_are : (c : Control) (n : ℕ) (ws : List Waiting) (ds : List (Drawn N O I)) → AreFor ws ds → AreNumbered n ds → map (λ x. x.pipe) (flat_map opened_of ds) ≡ all_pipes (bind_joins c n ws)
  pipes_are c n [] [] are numbers = refl
  pipes_are c n [] (d ∷ ds) are numbers = absurd are
  pipes_are c n (w ∷ ws) [] are numbers = absurd are
  pipes_are c n (w ∷ ws) (d ∷ ds) are numbers =
      ap (λ (k : ℕ). end_of k true ∷ end_of k false ∷ map (λ x. x.pipe) (flat_map opened_of ds)) numbers.0
      ∙ ap (λ (es : List EndId). end_of n true ∷ end_of n false ∷ es) (pipes_are c (n + 1) ws ds are.1 numbers.1)

  -- ---- the ends at the holder
  pub ends_held : (ds : List (Drawn N O I)) → map (λ x. x.end) (map held_of ds) ≡ map first_of ds
  ends_held [] = refl
  ends_held (d ∷ ds) = ap (λ (es : List EndId). first_of d ∷ es) (ends_held ds)

  pub held_joined : (c : Control) (ds : List (Drawn N O I)) → map held_as (map (joins_of c) ds) ≡ map held_of ds
  held_joined c [] = refl
  held_joined c (d ∷ ds) = ap (λ (hs : List (Held N)). held_of d ∷ hs) (held_joined c ds)
