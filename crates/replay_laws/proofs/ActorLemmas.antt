-- What an actor's step does is settled by what it found, by how the actor stands, and by the steps past.
use Rattle.std.specs.Prelude.{◌≡◌, ◌==◌, ◌&&◌, ℕ, Bool, true, false, not, List, [], ◌∷◌, ◌++◌, if◌then◌else◌, refl}
use Rattle.std.proofs.Common.{sym, ap, ◌∙◌, subst, append-nil}
use Rattle.zq_base.specs.Ends.{PipeId}
use Rattle.spec_pattern.specs.PipeStep.{PipeStep}
use Rattle.spec_pattern.specs.declared.answers.Skip.{Skip}
use Rattle.spec_control.specs.declared.request.Req.TheVariants.{Close}
use Rattle.spec_control.specs.declared.request.Reply.TheVariants.{Done}
use Rattle.spec_control.specs.Control.{Control, id}
use Rattle.control_laws.proofs.ListLemmas.{never}
use Rattle.spec_control.specs.OwnAsks.{is_none}
use Rattle.spec_run.specs.declared.journal.Entry.{Entry}
use Rattle.spec_run.specs.declared.script.Line.{Line}
use Rattle.spec_run.specs.Script.{line_is_over}
use Rattle.spec_run.specs.Act.{Act, Try, Deed, Tries, Shuts, Fetches, Idles, Works, Looks, AsksRoot, Reads, steps_in, all_acts}
use Rattle.spec_run.specs.Event.{acts_said}
use Rattle.spec_run.specs.Standing.{Sockets, ActorStanding, ClosesOne, DoesLine, DoesTry, ShutsFirst, standing_after}
use Rattle.spec_run.specs.InTurns.{ActorStep}
use Rattle.replay_laws.specs.Blank.{blank}
use Rattle.replay_laws.proofs.WalkLemmas.{leaves, Walks, Reached, Same, same_none, same_as}
use Rattle.replay_laws.proofs.TryLemmas.{Ahead, Tries as TriesFrom}
use Rattle.replay_laws.proofs.LineLemmas.{EachStands, plain_same, line_same}
use Rattle.replay_laws.proofs.KeepLemmas.{each_aside, each_filter, line_stands}
use Rattle.replay_laws.proofs.StepLemmas.{bare, StepSame}

both_none : (a b : Bool) → (a && b) ≡ true → (a ≡ true) × (b ≡ true)
both_none true true e = (refl, refl)
both_none true false e = absurd (never e)
both_none false b e = absurd (never e)

not_none : {X : Type 0} (x : X) (xs ys : List X) → ys ≡ x ∷ xs → is_none ys ≡ true → ⊥
not_none x xs ys e none = never (sym (ap is_none e) ∙ none)

same_head : {X : Type 0} (x y : X) (xs ys : List X) → x ∷ xs ≡ y ∷ ys → (x ≡ y) × (xs ≡ ys)
same_head x y xs ys e = (let p : x ≡ y = cc in p, let q : xs ≡ ys = cc in q)

after_try : (c : Control) (over : Bool) (rest : List Line) (told : List Skip) (mine : Sockets) (old : ActorStanding) → EachStands c mine.socks → EachStands c (standing_after over rest told mine old).mine.socks
after_try c true rest told mine old each = each
after_try c false rest told mine old each = each

module _ {N S : Type 0} where
  pub record ActorSame (c d : Control) (ds es : List (Deed N S)) (u v : ActorStanding) : Type 0 where
    pub step : StepSame c d ds es
    pub standing : u ≡ v

  bare_try : (t x : Try N S) → steps_in (t.pump ++ t.call) ≡ steps_in (x.pump ++ x.call) → t.skips ≡ x.skips → t.line ≡ x.line → t.answer ≡ x.answer → t.told ≡ x.told → t.over ≡ x.over → bare (Tries t) ≡ bare (Tries x)
  bare_try t x steps skips line answer told over = λ i. record {
    steps = steps i;
    skips = skips i;
    entries = if over i then (let e : Entry = record { line = (line i).number; answer = answer i; skips = told i } in e) ∷ [] else [];
  }

  try_same : (cap cup : PipeId → ℕ) (c d : Control) (past : List PipeStep) (old u v : ActorStanding) (t x : Try N S) → Reached N S c → Reached N S d → blank c ≡ blank d
      → EachStands c old.mine.socks → EachStands d old.mine.socks → Walks cap c past (t.pump ++ t.call) → Walks cup d past (x.pump ++ x.call) → Ahead N S cap (leaves c (t.pump ++ t.call)) → Ahead N S cup (leaves d (x.pump ++ x.call))
      → DoesTry old t u → DoesTry old x v → ActorSame c d (Tries t ∷ []) (Tries x ∷ []) u v
  try_same cap cup c d past old u v t x r q p each each_too w w2 ahead ahead_too f g =
      let lines = same_head t.line x.line f.rest g.rest (sym f.lines_are ∙ g.lines_are) in
      let from_here : TriesFrom cap cup c d past t x = record { one = r; other = q; states = p; walk = w; walk_too = w2; ahead = ahead; ahead_too = ahead_too } in
      let one = line_same cap cup c d past t x from_here old.mine f.mine g.mine each each_too t.line.call f.does (subst (λ (l : Line). DoesLine l.call old.mine x g.mine) (sym lines.0) g.does) in
      let told : t.told ≡ x.told = f.told_is ∙ ap (λ (l : List Skip). old.told ++ l) one.skips ∙ sym g.told_is in
      let over : t.over ≡ x.over = f.over_is ∙ ap (λ (l : Line). line_is_over old.tried l.call t.answer) lines.0 ∙ ap (line_is_over old.tried x.line.call) one.answer ∙ sym g.over_is in
      let standing : standing_after t.over f.rest t.told f.mine old ≡ standing_after x.over g.rest x.told g.mine old =
      λ i. standing_after (over i) (lines.1 i) (told i) (one.socks i) old in
      let b = bare_try t x one.same.steps one.skips lines.0 one.answer told over in
      record {
        step = record {
          same = same_as c d ((t.pump ++ t.call) ++ []) ((x.pump ++ x.call) ++ []) (t.pump ++ t.call) (x.pump ++ x.call) (append-nil (t.pump ++ t.call)) (append-nil (x.pump ++ x.call)) one.same;
          bares = ap (λ z. z ∷ []) b;
        };
        standing = f.new_is ∙ standing ∙ sym g.new_is;
      }

  shut_same : (cap cup : PipeId → ℕ) (c d : Control) (past : List PipeStep) (old u v : ActorStanding) (xs ys : List (Act N S)) → blank c ≡ blank d → Walks cap c past xs → Walks cup d past ys
      → ShutsFirst old xs u → ShutsFirst old ys v → ActorSame c d (Shuts xs ∷ []) (Shuts ys ∷ []) u v
  shut_same cap cup c d past old u v xs ys p w w2 f g =
      let firsts = same_head f.first g.first f.others g.others (sym f.socks_are ∙ g.socks_are) in
      let m = f.closes.closed in
      let closes : ClosesOne f.first ys old.mine g.mine = subst (λ s. ClosesOne s ys old.mine g.mine) (sym firsts.0) g.closes in
      let n = closes.closed in
      let plain = plain_same cap cup c d past (Close (id f.first.object)) Done Done m n p (λ z. refl) f.closes.request closes.request (subst (Walks cap c past) f.closes.acts_are w) (subst (Walks cup d past) closes.acts_are w2) in
      let same : Same c d xs ys = same_as c d xs ys (acts_said m) (acts_said n) f.closes.acts_are closes.acts_are plain.same in
      let mine : f.mine ≡ g.mine = f.closes.new_is ∙ sym closes.new_is in
      record {
        step = record {
          same = same_as c d (xs ++ []) (ys ++ []) xs ys (append-nil xs) (append-nil ys) same;
          bares = ap (λ l. record { steps = l; skips = []; entries = [] } ∷ []) same.steps;
        };
        standing = f.new_is ∙ ap (λ (z : Sockets). let k : ActorStanding = record old { mine = z } in k) mine ∙ sym g.new_is;
      }

  pub actor_same : (cap cup : PipeId → ℕ) (c d : Control) (past : List PipeStep) (old u v : ActorStanding) (ds es : List (Deed N S)) → Reached N S c → Reached N S d → blank c ≡ blank d
      → EachStands c old.mine.socks → EachStands d old.mine.socks → Walks cap c past (all_acts ds) → Walks cup d past (all_acts es) → Ahead N S cap (leaves c (all_acts ds)) → Ahead N S cup (leaves d (all_acts es))
      → ActorStep old ds u → ActorStep old es v → ActorSame c d ds es u v
  actor_same cap cup c d past old u v [] [] r q p each each_too w w2 ahead ahead_too f g = record { step = record { same = same_none c d p; bares = refl }; standing = f.1 ∙ sym g.1 }
  actor_same cap cup c d past old u v (Tries t ∷ []) (Tries x ∷ []) r q p each each_too w w2 ahead ahead_too f g =
      try_same cap cup c d past old u v t x r q p each each_too (subst (Walks cap c past) (append-nil (t.pump ++ t.call)) w) (subst (Walks cup d past) (append-nil (x.pump ++ x.call)) w2)
      (subst (λ l. Ahead N S cap (leaves c l)) (append-nil (t.pump ++ t.call)) ahead) (subst (λ l. Ahead N S cup (leaves d l)) (append-nil (x.pump ++ x.call)) ahead_too) f g
  actor_same cap cup c d past old u v (Shuts xs ∷ []) (Shuts ys ∷ []) r q p each each_too w w2 ahead ahead_too f g =
      shut_same cap cup c d past old u v xs ys p (subst (Walks cap c past) (append-nil xs) w) (subst (Walks cup d past) (append-nil ys) w2) f g
  actor_same cap cup c d past old u v [] (Tries x ∷ []) r q p each each_too w w2 ahead ahead_too f g = absurd (not_none x.line g.rest old.lines g.lines_are (both_none (is_none old.lines) _ f.0).0)
  actor_same cap cup c d past old u v (Tries t ∷ []) [] r q p each each_too w w2 ahead ahead_too f g = absurd (not_none t.line f.rest old.lines f.lines_are (both_none (is_none old.lines) _ g.0).0)
  actor_same cap cup c d past old u v [] (Shuts ys ∷ []) r q p each each_too w w2 ahead ahead_too f g = absurd (not_none g.first g.others old.mine.socks g.socks_are (both_none (is_none old.lines) _ f.0).1)
  actor_same cap cup c d past old u v (Shuts xs ∷ []) [] r q p each each_too w w2 ahead ahead_too f g = absurd (not_none f.first f.others old.mine.socks f.socks_are (both_none (is_none old.lines) _ g.0).1)
  actor_same cap cup c d past old u v (Tries t ∷ []) (Shuts ys ∷ []) r q p each each_too w w2 ahead ahead_too f g = absurd (not_none t.line f.rest old.lines f.lines_are (ap is_none g.no_lines))
  actor_same cap cup c d past old u v (Shuts xs ∷ []) (Tries x ∷ []) r q p each each_too w w2 ahead ahead_too f g = absurd (not_none x.line g.rest old.lines g.lines_are (ap is_none f.no_lines))
  actor_same cap cup c d past old u v (Fetches slot acts ∷ []) es r q p each each_too w w2 ahead ahead_too f g = absurd f
  actor_same cap cup c d past old u v (Idles m ∷ []) es r q p each each_too w w2 ahead ahead_too f g = absurd f
  actor_same cap cup c d past old u v (Works acts ∷ []) es r q p each each_too w w2 ahead ahead_too f g = absurd f
  actor_same cap cup c d past old u v (Looks m ∷ []) es r q p each each_too w w2 ahead ahead_too f g = absurd f
  actor_same cap cup c d past old u v (AsksRoot acts ∷ []) es r q p each each_too w w2 ahead ahead_too f g = absurd f
  actor_same cap cup c d past old u v (Reads now ∷ []) es r q p each each_too w w2 ahead ahead_too f g = absurd f
  actor_same cap cup c d past old u v (a ∷ b ∷ ds) es r q p each each_too w w2 ahead ahead_too f g = elim f [ ]
  actor_same cap cup c d past old u v [] (Fetches slot acts ∷ []) r q p each each_too w w2 ahead ahead_too f g = absurd g
  actor_same cap cup c d past old u v [] (Idles m ∷ []) r q p each each_too w w2 ahead ahead_too f g = absurd g
  actor_same cap cup c d past old u v [] (Works acts ∷ []) r q p each each_too w w2 ahead ahead_too f g = absurd g
  actor_same cap cup c d past old u v [] (Looks m ∷ []) r q p each each_too w w2 ahead ahead_too f g = absurd g
  actor_same cap cup c d past old u v [] (AsksRoot acts ∷ []) r q p each each_too w w2 ahead ahead_too f g = absurd g
  actor_same cap cup c d past old u v [] (Reads now ∷ []) r q p each each_too w w2 ahead ahead_too f g = absurd g
  actor_same cap cup c d past old u v [] (a ∷ b ∷ es) r q p each each_too w w2 ahead ahead_too f g = elim g [ ]
  actor_same cap cup c d past old u v (Tries t ∷ []) (Fetches slot acts ∷ []) r q p each each_too w w2 ahead ahead_too f g = absurd g
  actor_same cap cup c d past old u v (Tries t ∷ []) (Idles m ∷ []) r q p each each_too w w2 ahead ahead_too f g = absurd g
  actor_same cap cup c d past old u v (Tries t ∷ []) (Works acts ∷ []) r q p each each_too w w2 ahead ahead_too f g = absurd g
  actor_same cap cup c d past old u v (Tries t ∷ []) (Looks m ∷ []) r q p each each_too w w2 ahead ahead_too f g = absurd g
  actor_same cap cup c d past old u v (Tries t ∷ []) (AsksRoot acts ∷ []) r q p each each_too w w2 ahead ahead_too f g = absurd g
  actor_same cap cup c d past old u v (Tries t ∷ []) (Reads now ∷ []) r q p each each_too w w2 ahead ahead_too f g = absurd g
  actor_same cap cup c d past old u v (Tries t ∷ []) (a ∷ b ∷ es) r q p each each_too w w2 ahead ahead_too f g = elim g [ ]
  actor_same cap cup c d past old u v (Shuts xs ∷ []) (Fetches slot acts ∷ []) r q p each each_too w w2 ahead ahead_too f g = absurd g
  actor_same cap cup c d past old u v (Shuts xs ∷ []) (Idles m ∷ []) r q p each each_too w w2 ahead ahead_too f g = absurd g
  actor_same cap cup c d past old u v (Shuts xs ∷ []) (Works acts ∷ []) r q p each each_too w w2 ahead ahead_too f g = absurd g
  actor_same cap cup c d past old u v (Shuts xs ∷ []) (Looks m ∷ []) r q p each each_too w w2 ahead ahead_too f g = absurd g
  actor_same cap cup c d past old u v (Shuts xs ∷ []) (AsksRoot acts ∷ []) r q p each each_too w w2 ahead ahead_too f g = absurd g
  actor_same cap cup c d past old u v (Shuts xs ∷ []) (Reads now ∷ []) r q p each each_too w w2 ahead ahead_too f g = absurd g
  actor_same cap cup c d past old u v (Shuts xs ∷ []) (a ∷ b ∷ es) r q p each each_too w w2 ahead ahead_too f g = elim g [ ]

  -- ---- its sockets stand behind it
  pub actor_stands : (cap : PipeId → ℕ) (c : Control) (past : List PipeStep) (old u : ActorStanding) (ds : List (Deed N S)) → Reached N S c → EachStands c old.mine.socks → Walks cap c past (all_acts ds) → ActorStep old ds u → EachStands (leaves c (all_acts ds)) u.mine.socks
  actor_stands cap c past old u [] r each w f = subst (λ (z : ActorStanding). EachStands c z.mine.socks) (sym f.1) each
  actor_stands cap c past old u (Tries t ∷ []) r each w f =
      let walk = subst (Walks cap c past) (append-nil (t.pump ++ t.call)) w in
      subst (λ l. EachStands (leaves c l) u.mine.socks) (sym (append-nil (t.pump ++ t.call)))
      (subst (λ (z : ActorStanding). EachStands (leaves c (t.pump ++ t.call)) z.mine.socks) (sym f.new_is)
      (after_try (leaves c (t.pump ++ t.call)) t.over f.rest t.told f.mine old (line_stands cap c past t r walk old.mine f.mine each t.line.call f.does)))
  actor_stands cap c past old u (Shuts xs ∷ []) r each w f =
      let walk = subst (Walks cap c past) (append-nil xs) w in
      let aside = each_aside cap xs c past r walk old.mine.socks each in
      subst (λ l. EachStands (leaves c l) u.mine.socks) (sym (append-nil xs))
      (subst (λ (z : ActorStanding). EachStands (leaves c xs) z.mine.socks) (sym f.new_is)
      (subst (λ (z : Sockets). EachStands (leaves c xs) z.socks) (sym f.closes.new_is) (each_filter (leaves c xs) (λ z. not (z.object == f.first.object)) old.mine.socks aside)))
  actor_stands cap c past old u (Fetches slot acts ∷ []) r each w f = absurd f
  actor_stands cap c past old u (Idles m ∷ []) r each w f = absurd f
  actor_stands cap c past old u (Works acts ∷ []) r each w f = absurd f
  actor_stands cap c past old u (Looks m ∷ []) r each w f = absurd f
  actor_stands cap c past old u (AsksRoot acts ∷ []) r each w f = absurd f
  actor_stands cap c past old u (Reads now ∷ []) r each w f = absurd f
  actor_stands cap c past old u (a ∷ b ∷ ds) r each w f = elim f [ ]
