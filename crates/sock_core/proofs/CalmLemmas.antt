-- The ends that joined while no end changed its state are held at their places, and the last of them stands where it is found.
use Rattle.std.proofs.Common.{◌≡◌, ◌∙◌, ◌&&◌, ◌==◌, ℕ, Bool, true, false, List, [], ◌∷◌, ◌++◌, None, Some, length, map, refl, sym, ap, subst, set, eqb-true, true≢false}
use Rattle.std.proofs.lemmas.Bool.{eq-eqb}
use Rattle.zq_base.specs.declared.ids.EndId.{EndId}
use Rattle.spec_control.specs.declared.entry.Joining.{Joining}
use Rattle.spec_control.specs.declared.end.EndState.{EndState}
use Rattle.spec_control.specs.declared.end.EndState.TheVariants.{Active, DelimiterGot, WaitDelimiter, AckSent, AskedOnce, AskedTwice, Gone}
use Rattle.spec_control.specs.Control.{is_end}
use Rattle.spec_control.specs.Place.{At}
use Rattle.spec_run.specs.OpenSocket.{is_out}
use Rattle.msg_pipe.specs.Known.{Known}
use Rattle.end_table.specs.Rows.{Rows}
use Rattle.desk.specs.Lent.{has_writer}
use Rattle.end_table.specs.declared.changes.PipeChange.{PipeChange}
use Rattle.end_table.specs.declared.table.Place.{Place}
use Rattle.end_table.specs.Places.{place_at, is_of}
use Rattle.end_table.specs.Sound.{IsSound}
use Rattle.end_table.proofs.PlaceLemmas.{place_else}
use Rattle.sock_core.specs.Way.{Way, without_first, with_came, with_undone, IsElse, IsHeldAt, AreHeld, IsCalm}
use Rattle.sock_core.proofs.FindLemmas.{alone_of, end_self, never}
use Rattle.sock_core.proofs.WayLemmas.{at_before, at_last, stood_last}

-- an end without its writing half in its state is neither written nor read
pub out_of : (state : EndState) → has_writer (At state) ≡ false → is_out (At state) ≡ true
out_of Active h = never h
out_of DelimiterGot h = never h
out_of WaitDelimiter h = never h
out_of AckSent h = refl
out_of AskedOnce h = never h
out_of AskedTwice h = refl
out_of Gone h = refl

-- so it is no peer where each peer is in use
pub no_peer : (b : Bool) (state : EndState) → (b ≡ true → is_out (At state) ≡ false) → has_writer (At state) ≡ false → b ≡ false
no_peer true state used out = never (sym (out_of state out) ∙ used refl)
no_peer false state used out = refl

module _ {N I : Type 0} where
  none_behind : (ps : List (Place N I)) → place_at ps (length ps) ≡ None
  none_behind [] = refl
  none_behind (x ∷ ps) = none_behind ps

  some_none : (p : Place N I) → Some p ≡ None → ⊥
  some_none p e = cc

  held_more : (ps : List (Place N I)) (q : Place N I) (xs : List (Joining N × ℕ)) → AreHeld ps xs → AreHeld (ps ++ q ∷ []) xs
  held_more ps q [] h = tt
  held_more ps q (x ∷ xs) h =
      let one = h.0 in
      (record { place = one.place; there = at_before ps q one.place x.1 one.there; end_is = one.end_is; held = one.held }, (h.1.0, held_more ps q xs h.1.1))

  -- none of these stands behind all places
  else_behind : (ps : List (Place N I)) (place : ℕ) (xs : List (Joining N × ℕ)) → place ≡ length ps → AreHeld ps xs → IsElse place xs
  else_behind ps place [] last h = tt
  else_behind ps place (x ∷ xs) last h =
      ((λ e. some_none h.0.place (sym h.0.there ∙ ap (place_at ps) (e ∙ last) ∙ none_behind ps)), else_behind ps place xs last h.1.1)

  held_else : (ps : List (Place N I)) (place : ℕ) (q : Place N I) (xs : List (Joining N × ℕ)) → IsElse place xs → AreHeld ps xs → AreHeld (set ps place q) xs
  held_else ps place q [] other h = tt
  held_else ps place q (x ∷ xs) other h =
      let one = h.0 in
      (record { place = one.place; there = place_else ps place x.1 q other.0 ∙ one.there; end_is = one.end_is; held = one.held }, (h.1.0, held_else ps place q xs other.1 h.1.1))

  -- one more joined
  pub calm_came : {O S : Type 0} (changes : List (PipeChange O I × S)) (w w' : Way N) (ps qs : List (Place N I)) (q : Place N I) (j : Joining N) (place : ℕ) (e : EndId) (came : List EndId)
      → w' ≡ with_came j place w → qs ≡ ps ++ q ∷ [] → place ≡ length ps → q.end ≡ j.end → q.held ≡ true → j.end ≡ e → IsCalm w ps changes came → IsCalm w' qs changes (e ∷ came)
  calm_came changes w w' ps qs q j place e came noted behind last same held is calm =
      subst (λ (x : Way N). IsCalm x qs changes (e ∷ came)) (sym noted)
      (subst (λ (l : List (Place N I)). IsCalm (with_came j place w) l changes (e ∷ came)) (sym behind) (record {
        quiet = calm.quiet;
        makings = calm.makings;
        ends = ap (λ (d : EndId). d ∷ map (λ (x : Joining N × ℕ). x.0.end) w.joined) is ∙ ap (λ (es : List EndId). e ∷ es) calm.ends;
        held = (record { place = q; there = ap (place_at (ps ++ q ∷ [])) last ∙ at_last ps q; end_is = same; held = held }, (else_behind ps place w.joined last calm.held, held_more ps q w.joined calm.held));
      }))

  -- the one that is taken back stands where it is found
  pub calm_last : {S O : Type 0} (K : Known S O I N) (changes : List (PipeChange O I × S)) (pipes : S) (rows : Rows O I) (w : Way N) (ps : List (Place N I)) (place : ℕ) (p : Place N I) (e : EndId) (came : List EndId)
      → IsSound K pipes rows ps → place_at ps place ≡ Some p → is_of e p ≡ true → IsCalm w ps changes (e ∷ came) → stood_last place w.joined ≡ true
  calm_last K changes pipes rows w ps place p e came sound at is calm = by w.joined calm.ends calm.held
    where
      first : (d : EndId) (ds : List EndId) → d ∷ ds ≡ e ∷ came → d ≡ e
      first d ds same = cc

      some : List EndId → Bool
      some [] = false
      some (d ∷ ds) = true

      stands : (x : Joining N × ℕ) → x.0.end ≡ e → IsHeldAt ps x → (b : Bool) → (x.1 == place) ≡ b → b ≡ true
      stands x same here true h = refl
      stands x same here false off =
          never (sym (ap (λ (b : Bool). b && is_end e here.place.end) here.held ∙ ap (is_end e) (here.end_is ∙ same) ∙ end_self e)
          ∙ alone_of K pipes rows ps place p e sound at is x.1 here.place (λ k. true≢false (sym (eq-eqb x.1 place k) ∙ off)) here.there)

      by : (xs : List (Joining N × ℕ)) → map (λ (x : Joining N × ℕ). x.0.end) xs ≡ e ∷ came → AreHeld ps xs → stood_last place xs ≡ true
      by [] same held = never (sym (ap some same))
      by (x ∷ xs) same held = stands x (first x.0.end (map (λ (y : Joining N × ℕ). y.0.end) xs) same) held.0 (x.1 == place) refl

  -- and leaves the others
  pub calm_undone : {O S : Type 0} (changes : List (PipeChange O I × S)) (w w' : Way N) (ps qs : List (Place N I)) (q : Place N I) (place : ℕ) (e : EndId) (came : List EndId)
      → w' ≡ with_undone w → qs ≡ set ps place q → stood_last place w.joined ≡ true → IsCalm w ps changes (e ∷ came) → IsCalm w' qs changes came
  calm_undone changes w w' ps qs q place e came noted now last calm =
      subst (λ (x : Way N). IsCalm x qs changes came) (sym noted)
      (subst (λ (l : List (Place N I)). IsCalm (with_undone w) l changes came) (sym now) (by w.joined last calm.ends calm.held))
    where
      by : (xs : List (Joining N × ℕ)) → stood_last place xs ≡ true → map (λ (x : Joining N × ℕ). x.0.end) xs ≡ e ∷ came → AreHeld ps xs
          → IsCalm (record { joined = without_first xs; turns = w.turns }) (set ps place q) changes came
      by [] last ends held = never (sym last)
      by (x ∷ xs) last ends held = record {
        quiet = calm.quiet;
        makings = calm.makings;
        ends = ap (λ (es : List EndId). without_first es) ends;
        held = held_else ps place q xs (subst (λ (n : ℕ). IsElse n xs) (eqb-true x.1 place last) held.1.0) held.1.1;
      }
