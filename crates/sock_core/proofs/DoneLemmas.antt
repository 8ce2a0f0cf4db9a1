-- What was done to the pipes since a stretch began, after one more call.
use Rattle.std.proofs.Common.{◌≡◌, ◌∙◌, ◌&&◌, ◌||◌, ℕ, Bool, true, false, List, [], ◌∷◌, ◌++◌, Option, Some, not, refl, sym, ap, subst, true≢false}
use Rattle.std.specs.Prelude.{map}
use Rattle.std.specs.List.{list_any}
use Rattle.std.proofs.Math.Logic.{∥∥₁_map}
use Rattle.std.proofs.lemmas.List.{append-nil, append_assoc, map-append}
use Rattle.zq_base.specs.declared.ids.EndId.{EndId}
use Rattle.spec_control.specs.Control.{is_end}
use Rattle.msg_pipe.specs.Known.{Known}
use Rattle.end_table.specs.declared.changes.PipeChange.{PipeChange}
use Rattle.end_table.specs.declared.table.Place.{Place}
use Rattle.end_table.specs.Places.{place_at}
use Rattle.end_table.specs.Others.{KeepsPlaces}
use Rattle.end_table.specs.Changes.{sealings_in, sealing_at, DoesMore}
use Rattle.end_table.proofs.ChangeLemmas.{changes_later, since_on, held_since, sealings_since}
use Rattle.sock_core.specs.Noted.{were_told, TellsSeals, AreSealed, HasDone}

-- ---- what was to be sealed

told_more : (es : List EndId) (xs : List (EndId × Bool)) (e : EndId) (b : Bool) → were_told es xs ≡ true → (b || list_any (is_end e) (es ++ map (λ x. x.0) xs)) ≡ true → were_told es (xs ++ (e, b) ∷ []) ≡ true
told_more es [] e b h last = ap (λ (c : Bool). c && true) (ap (λ (l : List EndId). b || list_any (is_end e) l) (sym (append-nil es)) ∙ last)
told_more es (x ∷ xs) e b h last =
    by (x.1 || list_any (is_end x.0) es) h
    (λ rest. told_more (es ++ x.0 ∷ []) xs e b rest (ap (λ (l : List EndId). b || list_any (is_end e) l) (append_assoc es (x.0 ∷ []) (map (λ (y : EndId × Bool). y.0) xs)) ∙ last))
  where
    by : (c : Bool) → (c && were_told (es ++ x.0 ∷ []) xs) ≡ true → (were_told (es ++ x.0 ∷ []) xs ≡ true → were_told (es ++ x.0 ∷ []) (xs ++ (e, b) ∷ []) ≡ true) → (c && were_told (es ++ x.0 ∷ []) (xs ++ (e, b) ∷ [])) ≡ true
    by true h rest = rest h
    by false h rest = absurd (true≢false (sym h))

tells_more : (es : List EndId) (xs : List (EndId × Bool)) (fs gs : List EndId) (e : EndId) (b : Bool) → TellsSeals es xs fs → (b ≡ false → list_any (is_end e) fs ≡ true) → gs ≡ fs ++ e ∷ [] → TellsSeals es (xs ++ (e, b) ∷ []) gs
tells_more es xs fs gs e b t known more = record {
  all = more ∙ ap (λ (l : List EndId). l ++ e ∷ []) t.all ∙ append_assoc es (map (λ (x : EndId × Bool). x.0) xs) (e ∷ []) ∙ ap (λ (l : List EndId). es ++ l) (sym (map-append (λ (x : EndId × Bool). x.0) xs ((e, b) ∷ [])));
  again = told_more es xs e b t.again (by b refl);
}
  where
    by : (c : Bool) → b ≡ c → (c || list_any (is_end e) (es ++ map (λ x. x.0) xs)) ≡ true
    by true is = refl
    by false is = ap (list_any (is_end e)) (sym t.all) ∙ known is

pub tells_none : (es : List EndId) → TellsSeals es [] es
tells_none es = record { all = sym (append-nil es); again = refl }

not_false : (b : Bool) → not b ≡ false → b ≡ true
not_false true h = refl
not_false false h = absurd (true≢false h)

module _ {S O I N : Type 0} (K : Known S O I N) (first : S) (were : List (Place N I)) (es : List EndId) where
  module _ (old new : S) (xs ys : List (PipeChange O I × S)) (ps qs : List (Place N I)) (since : KeepsPlaces were ps) (keeps : KeepsPlaces ps qs) (fs : List EndId) where
    -- a call at the pipes, which sealed none
    pub done_more : DoesMore K ps qs [] xs old ys new → HasDone K first were es xs old ps fs → HasDone K first were es ys new qs fs
    done_more more h = record {
      were_held = ∥∥₁_map h.were_held (λ w. held_since K were ps qs [] xs ys old new since w more);
      does = ∥∥₁_map h.does (λ d. since_on K ps qs [] xs ys first old new keeps d more);
      seals = subst (λ (l : List (EndId × Bool)). TellsSeals es l fs) (sym (sealings_since K ps qs [] xs ys old new more ∙ append-nil (sealings_in xs))) h.seals;
    }

    -- one that was told to seal the pipe of an end
    pub done_seal : (k : ℕ) (p : Place N I) (e : EndId) (gs : List EndId) → DoesMore K ps qs (sealing_at (place_at ps k)) xs old ys new → place_at ps k ≡ Some p → p.held ≡ true → p.end ≡ e
        → AreSealed ps fs → gs ≡ fs ++ e ∷ [] → HasDone K first were es xs old ps fs → HasDone K first were es ys new qs gs
    done_seal k p e gs more at held end sealed noted h = record {
      were_held = ∥∥₁_map h.were_held (λ w. held_since K were ps qs (sealing_at (place_at ps k)) xs ys old new since w more);
      does = ∥∥₁_map h.does (λ d. since_on K ps qs (sealing_at (place_at ps k)) xs ys first old new keeps d more);
      seals =
          subst (λ (l : List (EndId × Bool)). TellsSeals es l gs) (sym (sealings_since K ps qs (sealing_at (place_at ps k)) xs ys old new more ∙ ap (λ (o : Option (Place N I)). sealings_in xs ++ sealing_at o) at))
          (tells_more es (sealings_in xs) fs gs p.end (not p.sealed) h.seals (λ was. sealed k p at held (not_false p.sealed was)) (noted ∙ ap (λ (x : EndId). fs ++ x ∷ []) (sym end)));
    }

  -- the pipes were left alone
  pub done_still : (pipes : S) (xs : List (PipeChange O I × S)) (ps qs : List (Place N I)) (fs : List EndId) → KeepsPlaces ps qs → HasDone K first were es xs pipes ps fs → HasDone K first were es xs pipes qs fs
  done_still pipes xs ps qs fs keeps h = record { were_held = h.were_held; does = ∥∥₁_map h.does (λ d. changes_later K ps qs keeps xs first pipes d); seals = h.seals }

  -- nothing was done yet
  pub done_none : (pipes : S) (xs : List (PipeChange O I × S)) (ps : List (Place N I)) → first ≡ pipes → xs ≡ [] → HasDone K first were es xs pipes ps es
  done_none pipes xs ps same none = subst (λ (l : List (PipeChange O I × S)). HasDone K first were es l pipes ps es) (sym none) (record { were_held = ∣ tt ∣₁; does = ∣ sym same ∣₁; seals = tells_none es })
