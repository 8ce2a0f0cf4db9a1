-- In a run, the callers at one side of a pipe never fall.
use Rattle.std.proofs.Common.{◌≡◌, ◌≤◌, ◌<◌, ◌+◌, ℕ, zero, suc, List, [], ◌∷◌, ◌++◌, Bool, true, false, length, map, refl, sym, ap, subst, ◌∙◌, arith, inl, inr, append-nil, append_assoc, true≢false}
use Rattle.std.specs.Prelude.{◌==◌, ◌&&◌, flat_map, nat_lt, slice_index_or}
use Rattle.std.specs.List.{AllByRecursion, list_all, list_any}
use Rattle.std.proofs.lemmas.Bool.{ne_eqb, eqb-true, ltb-true, ltb-false}
use Rattle.zq_base.specs.declared.ids.EndId.{EndId}
use Rattle.zq_base.specs.Ends.{PipeId}
use Rattle.spec_pattern.specs.PipeStep.{PipeStep, Seal}
use Rattle.spec_pattern.specs.declared.answers.Skip.{Skip}
use Rattle.spec_run.specs.Act.{Act, Step, Said, Deed, Tries, Shuts, Fetches, Idles, Works, Looks, AsksRoot, Reads, acts_of, steps_in}
use Rattle.spec_run.specs.Fate.{skips_of}
use Rattle.spec_run.specs.Event.{seals_in}
use Rattle.spec_run.specs.Standing.{ActorStanding, has_finished}
use Rattle.spec_run.specs.InTurns.{AllStep, OneTurn, Turned, AsksIf, Begins, TurnsGo, NeverFall, is_live, turn_step}
use Rattle.zq_world.specs.Piece.{Piece, piece_of, deed_pieces}
use Rattle.zq_world.specs.OneSided.{makes, MayFollow, AreOneSided}
use Rattle.zq_world.specs.Turning.{turn_pieces, turns_pieces, sequence_pieces}
use Rattle.zq_world.proofs.AskedLemmas.{as_many}
use Rattle.zq_world.proofs.CallerLemmas.{callers}

all_front : {X : Type 0} (P : X → Type 0) (xs ys : List X) → AllByRecursion P (xs ++ ys) → AllByRecursion P xs
all_front P [] ys all = tt
all_front P (x ∷ xs) ys all = (all.0, all_front P xs ys all.1)

all_last : {X : Type 0} (P : X → Type 0) (xs : List X) (x : X) → AllByRecursion P (xs ++ x ∷ []) → P x
all_last P [] x all = all.0
all_last P (y ∷ xs) x all = all_last P xs x all.1

pub all_both : {X : Type 0} (P : X → Type 0) (xs ys : List X) → AllByRecursion P xs → AllByRecursion P ys → AllByRecursion P (xs ++ ys)
all_both P [] ys one two = two
all_both P (x ∷ xs) ys one two = (one.0, all_both P xs ys one.1 two)

module _ {N S : Type 0} where
  -- a call more at the end
  pub sides_go_on : (side : PipeStep → Bool) (past pieces : List (Piece N S)) (x : Piece N S) → AreOneSided side past pieces
      → (makes side x ≡ true → AllByRecursion (λ y. makes side y ≡ true → MayFollow y x) (past ++ pieces)) → AreOneSided side past (pieces ++ x ∷ [])
  sides_go_on side past [] x sided behind = (λ e. subst (AllByRecursion (λ y. makes side y ≡ true → MayFollow y x)) (append-nil past) (behind e), tt)
  sides_go_on side past (y ∷ pieces) x sided behind =
      (sided.0, sides_go_on side (past ++ y ∷ []) pieces x sided.1 (λ e. subst (AllByRecursion (λ z. makes side z ≡ true → MayFollow z x)) (sym (append_assoc past (y ∷ []) pieces)) (behind e)))

  -- there are no steps but the actors' and the reaper's
  past_reaper : (olds news : List ActorStanding) (steps : List (List (Deed N S))) (w : ℕ) → AllStep 1 olds steps news → length olds + 1 ≤ w → slice_index_or steps w [] ≡ []
  past_reaper [] news [] w all le = elim all [ ]
  past_reaper [] news (reaper ∷ serving) zero all le = absurd (never le)
    where
      never : length {A = ActorStanding} [] + 1 ≤ 0 → ⊥
      never e = omega (arith, e)
  past_reaper [] news (reaper ∷ serving) (suc zero) all le = ap (λ (l : List (List (Deed N S))). slice_index_or l 0 []) all.1
  past_reaper [] news (reaper ∷ serving) (suc (suc w)) all le = ap (λ (l : List (List (Deed N S))). slice_index_or l (suc w) []) all.1
  past_reaper (o ∷ olds) news [] w all le = elim all [ ]
  past_reaper (o ∷ olds) [] (s ∷ steps) w all le = elim all [ ]
  past_reaper (o ∷ olds) (n ∷ news) (s ∷ steps) zero all le = absurd (never le)
    where
      never : length (o ∷ olds) + 1 ≤ 0 → ⊥
      never e = omega (arith, e)
  past_reaper (o ∷ olds) (n ∷ news) (s ∷ steps) (suc w) all le = past_reaper olds news steps w all.1 (let e = le in omega (arith, e))

pub silent_seals : (N S : Type 0) (side : PipeStep → Bool) → ((p : PipeId) → side (Seal p) ≡ false) → (es : List EndId) → list_any side (steps_in {N = N} {S = S} (map (λ e. Step (Seal e)) es)) ≡ false
silent_seals N S side seals [] = refl
silent_seals N S side seals (e ∷ es) = rw (seals e) (silent_seals N S side seals es)

module _ {N S : Type 0} (side : PipeStep → Bool) (seals : (p : PipeId) → side (Seal p) ≡ false) (n : ℕ) where
  -- a call of a run in which the reaper has this number
  pub record Fit (x : Piece N S) : Type 0 where
    pub reaper_is : x.reaps ≡ (x.by == n)
    pub low : makes side x ≡ true → x.by ≤ n
    pub few : x.by < n + 3

  pub rising : (a : ℕ) (past xs : List (Piece N S)) → AreOneSided side past xs → AllByRecursion Fit xs
      → ((z : Piece N S) → Fit z → makes side z ≡ true → AllByRecursion (λ y. makes side y ≡ true → MayFollow y z) past → a ≤ z.by) → NeverFall a (callers (makes side) xs)
  rising a past [] sided fits above = tt
  rising a past (x ∷ xs) sided fits above = by (makes side x) refl (λ c behind_all. rising c (past ++ x ∷ []) xs sided.1 fits.1 behind_all)
    where
      behind : makes side x ≡ true → (z : Piece N S) → Fit z → makes side z ≡ true → AllByRecursion (λ y. makes side y ≡ true → MayFollow y z) (past ++ x ∷ []) → x.by ≤ z.by
      behind e z fit makes_z all = so (all_last (λ y. makes side y ≡ true → MayFollow y z) past x all e)
        where
          so : MayFollow x z → x.by ≤ z.by
          so (inl same) = omega (arith, same)
          so (inr then) = let is = eqb-true z.by n (sym fit.reaper_is ∙ then.1) in let le = fits.0.low e in omega (arith, is, le)

      by : (b : Bool) → makes side x ≡ b
          → ((c : ℕ) → ((z : Piece N S) → Fit z → makes side z ≡ true → AllByRecursion (λ y. makes side y ≡ true → MayFollow y z) (past ++ x ∷ []) → c ≤ z.by) → NeverFall c (callers (makes side) xs))
          → NeverFall a (callers (makes side) (x ∷ xs))
      by true e rest = rw e (above x fits.0 e (sided.0 e), rest x.by (behind e))
      by false e rest = rw e (rest a (λ z fit makes_z all. above z fit makes_z (all_front (λ y. makes side y ≡ true → MayFollow y z) past (x ∷ []) all)))

  -- ---- the calls of a run fit

  pub fit_low : (w : ℕ) (acts : List (Act N S)) (skips : List Skip) → w ≤ n → AllByRecursion Fit (piece_of w (w == n) acts skips)
  fit_low w [] skips le = tt
  fit_low w (act ∷ acts) skips le = (record { reaper_is = refl; low = λ e. le; few = omega (arith, le) }, tt)

  fit_deeds : (w : ℕ) (ds : List (Deed N S)) → w ≤ n → AllByRecursion Fit (deed_pieces w (w == n) ds)
  fit_deeds w [] le = tt
  fit_deeds w (d ∷ ds) le = all_both Fit (piece_of w (w == n) (acts_of d) (skips_of d)) (deed_pieces w (w == n) ds) (fit_low w (acts_of d) (skips_of d) le) (fit_deeds w ds le)

  fit_order : (olds news : List ActorStanding) (t : OneTurn N S) (order : List ℕ) → n ≡ length olds → AllStep 1 olds t.steps news
      → AllByRecursion Fit (flat_map (λ w. deed_pieces w (w == n) (turn_step w t)) order)
  fit_order olds news t [] same all = tt
  fit_order olds news t (w ∷ order) same all =
      all_both Fit (deed_pieces w (w == n) (turn_step w t)) (flat_map (λ v. deed_pieces v (v == n) (turn_step v t)) order) (one (nat_lt w (n + 1)) refl) (fit_order olds news t order same all)
    where
      one : (b : Bool) → nat_lt w (n + 1) ≡ b → AllByRecursion Fit (deed_pieces w (w == n) (turn_step w t))
      one true e = fit_deeds w (turn_step w t) (let lt = ltb-true w (n + 1) e in omega (arith, lt))
      one false e = subst (λ (ds : List (Deed N S)). AllByRecursion Fit (deed_pieces w (w == n) ds))
          (sym (past_reaper olds news t.steps w all (let le = ltb-false w (n + 1) e in omega (arith, le, same)))) tt

  -- the conductor makes no step at a pipe but for delimiters
  pub fit_silent : (acts : List (Act N S)) (skips : List Skip) → list_any side (steps_in acts) ≡ false → AllByRecursion Fit (piece_of (n + 2) false acts skips)
  fit_silent [] skips e = tt
  fit_silent (act ∷ acts) skips e =
      (record { reaper_is = sym (ne_eqb (n + 2) n (λ same. omega (arith, same))); low = λ h. absurd (true≢false (sym h ∙ e)); few = omega arith }, tt)

  fit_begins : (olds : List ActorStanding) (begins : List (Deed N S)) → Begins olds begins → AllByRecursion Fit (deed_pieces (n + 2) false begins)
  fit_begins olds [] so = elim so [ ]
  fit_begins olds (Looks m ∷ asks) so =
      all_both Fit (piece_of (n + 2) false (Said m ∷ []) []) (deed_pieces (n + 2) false asks) (fit_silent (Said m ∷ []) [] refl) (asked (list_all has_finished olds && is_live so.look.sight.root) asks so.asks_if)
    where
      asked : (b : Bool) (ds : List (Deed N S)) → AsksIf b ds → AllByRecursion Fit (deed_pieces (n + 2) false ds)
      asked false ds a = subst (λ (l : List (Deed N S)). AllByRecursion Fit (deed_pieces (n + 2) false l)) (sym a) tt
      asked true ds a =
          subst (λ (l : List (Deed N S)). AllByRecursion Fit (deed_pieces (n + 2) false l)) (sym a.2)
          (all_both Fit (piece_of (n + 2) false a.0 []) [] (fit_silent a.0 [] (subst (λ (l : List (Act N S)). list_any side (steps_in l) ≡ false) (sym a.1.acts_are) (silent_seals N S side seals (seals_in a.1.asked)))) tt)
  fit_begins olds (Tries t ∷ asks) so = elim so [ ]
  fit_begins olds (Shuts acts ∷ asks) so = elim so [ ]
  fit_begins olds (Fetches slot acts ∷ asks) so = elim so [ ]
  fit_begins olds (Idles m ∷ asks) so = elim so [ ]
  fit_begins olds (Works acts ∷ asks) so = elim so [ ]
  fit_begins olds (AsksRoot acts ∷ asks) so = elim so [ ]
  fit_begins olds (Reads now ∷ asks) so = elim so [ ]

  fit_turns : (olds news : List ActorStanding) (ts : List (OneTurn N S)) (os : List (List ℕ)) → n ≡ length olds → TurnsGo 1 olds ts news → AllByRecursion Fit (turns_pieces n os ts)
  fit_turns olds news ts [] same go = tt
  fit_turns olds news [] (o ∷ os) same go = tt
  fit_turns olds news (t ∷ ts) (o ∷ os) same go =
      all_both Fit (turn_pieces n o t) (turns_pieces n os ts)
      (all_both Fit (deed_pieces (n + 2) false t.begins) (flat_map (λ w. deed_pieces w (w == n) (turn_step w t)) o) (fit_begins olds t.begins go.0) (fit_order olds go.1.0 t o same go.1.1))
      (fit_turns go.1.0 news ts os (same ∙ sym (as_many olds go.1.0 t.steps go.1.1)) go.1.2)

  pub fit_sequence : (olds news : List ActorStanding) (t : Turned N S) (os : List (List ℕ)) → n ≡ length olds → TurnsGo 1 olds t.turns news → AllByRecursion Fit (sequence_pieces n os t)
  fit_sequence olds news t os same go =
      all_both Fit (turns_pieces n os t.turns) (deed_pieces (n + 2) false (Looks t.last ∷ [])) (fit_turns olds news t.turns os same go) (fit_silent (Said t.last ∷ []) [] refl)
