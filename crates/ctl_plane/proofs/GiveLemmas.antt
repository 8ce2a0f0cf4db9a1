-- What a closed socket's holder gives, and what it has then.
use Rattle.std.specs.Prelude.{◌≡◌, ◌≢◌, ◌⊎◌, ◌||◌, ◌∷◌, [], ℕ, Bool, true, false, List, Option, All, is_some, map, refl}
use Rattle.std.specs.List.{list_any}
use Rattle.std.proofs.Common.{sym, ap, ◌∙◌, subst, inl, inr}
use Rattle.std.proofs.lemmas.Bool.{cases_eq}
use Rattle.std.proofs.lemmas.List.Elements.{All-nil, All-cons, All-map, All-weaker}
use Rattle.zq_base.specs.declared.ids.EndId.{EndId}
use Rattle.spec_control.specs.declared.entry.Joining.{Joining}
use Rattle.spec_control.specs.Place.{At}
use Rattle.spec_control.specs.Control.{Control, is_end, place_of}
use Rattle.spec_control.specs.ControlRun.{Joins, taken_over}
use Rattle.spec_control.specs.Held.{Held}
use Rattle.control_laws.proofs.AskLemmas.{end_self}
use Rattle.control_laws.proofs.ListLemmas.{never}
use Rattle.desk.specs.declared.given.Given.{Given}
use Rattle.desk.specs.declared.given.Parting.{Parting}
use Rattle.desk.specs.Holding.{Holding, AllSealed, AllStated, AllTold, AllWriting, AreGivenAs, HasGiven, KeepsTurns, given_as, has_end, held_given}
use Rattle.desk.specs.Lent.{HasAll, HasBothNames, HasEnds, has_writer, here_ends}
use Rattle.desk.specs.Load.{AreEndsOfClosed, GivesAll, IsNamed}
use Rattle.desk.specs.TakingOver.{AreGivenWith, IsGivenWith}
use Rattle.msg_pipe.specs.Known.{Known}
use Rattle.ctl_moves.specs.Noting.{noted_end, noted_join}
use Rattle.ctl_plane.proofs.ReapLemmas.{all_of_map}

map_of_map : {X Y Z : Type 0} (f : Y → Z) (g : X → Y) (xs : List X) → map f (map g xs) ≡ map (λ x. f (g x)) xs
map_of_map f g [] = refl
map_of_map f g (x ∷ xs) = ap (λ (ys : List _). f (g x) ∷ ys) (map_of_map f g xs)

-- ---- each of the ends that a holder has is among them
self_has : {N : Type 0} (xs : List (Held N)) → All (λ x. has_end x.end xs ≡ true) xs
self_has {N} [] = All-nil (λ (x : Held N). has_end {N = N} x.end [] ≡ true)
self_has (x ∷ xs) =
    All-cons (λ y. has_end y.end (x ∷ xs) ≡ true) x xs (ap (λ (b : Bool). b || has_end x.end xs) (end_self x.end))
    (All-weaker (λ y. has_end y.end xs ≡ true) (λ y. has_end y.end (x ∷ xs) ≡ true) (λ y is. later (is_end y.end x.end) is) xs (self_has xs))
  where
    later : {c : Bool} (b : Bool) → c ≡ true → (b || c) ≡ true
    later true is = refl
    later false is = is

module _ {N O I : Type 0} (out_name : O → N) (in_name : I → N) (c : Control) (socket : ℕ) (names : EndId → Option N) (h : Holding N) (has : HasEnds names c.rows.pairs c.attached c.reasons h socket)
    (gs : List (Given N O I)) (all : map (held_given out_name in_name) gs ≡ h.ends socket) where
  given_here : All (λ (g : Given N O I). has_end g.end (h.ends socket) ≡ true) gs
  given_here =
      all_of_map (λ (x : Held N). has_end x.end (h.ends socket) ≡ true) (held_given out_name in_name) gs
      (subst (λ (xs : List (Held N)). All (λ (x : Held N). has_end x.end (h.ends socket) ≡ true) xs) (sym all) (self_has (h.ends socket)))

  ends_are : map (λ (g : Given N O I). g.end) gs ≡ here_ends c.rows.pairs c.attached socket
  ends_are = sym (map_of_map (λ (x : Held N). x.end) (held_given out_name in_name) gs) ∙ ap (λ (xs : List (Held N)). map (λ (x : Held N). x.end) xs) all ∙ has.ends

  module _ (js : List (Joining N)) (listed : AreGivenAs out_name in_name gs js) (p : Parting N O I) (ends : p.ends.items ≡ map (noted_end c) gs) (joined : p.joined ≡ map (noted_join c) js) where
    joined_as : p.joined ≡ map (λ (g : Given N O I). noted_join c (given_as out_name in_name g)) gs
    joined_as = joined ∙ ap (map (noted_join c)) listed ∙ map_of_map (noted_join c) (given_as out_name in_name) gs

    -- they are those of the closed socket, with the names of their pipes
    pub given_ends : AreEndsOfClosed out_name in_name names p
    given_ends = record {
      listed = joined_as ∙ sym (ap (map (given_as out_name in_name)) ends ∙ map_of_map (given_as out_name in_name) (noted_end c) gs);
      named = subst (λ (xs : List (Joining N)). All (IsNamed out_name in_name names) xs) (sym joined_as)
          (All-map (IsNamed out_name in_name names) (λ (g : Given N O I). noted_join c (given_as out_name in_name g)) gs
          (λ k g lt. (let both = all_of_map (HasBothNames names) (held_given out_name in_name) gs (subst (λ (xs : List (Held N)). All (HasBothNames names) xs) (sym all) has.named) k g lt in record { written = both.written; read = both.read })));
    }

    -- and all that the holder had of it
    pub given_all : map (held_given out_name in_name) p.ends.items ≡ h.ends socket
    given_all = ap (map (held_given out_name in_name)) ends ∙ map_of_map (held_given out_name in_name) (noted_end c) gs ∙ all

    pub gives_all : AllWriting h.writes gs → AllStated h.state gs → GivesAll c socket p
    gives_all writing stated = record {
      joined =
          ap (λ (xs : List (Joining N)). map (λ (j : Joining N). let x : Joins = record { end = j.end; peer = j.peer; met = j.met } in x) xs) joined_as
          ∙ map_of_map (λ (j : Joining N). let x : Joins = record { end = j.end; peer = j.peer; met = j.met } in x) (λ (g : Given N O I). noted_join c (given_as out_name in_name g)) gs
          ∙ sym (map_of_map (λ (e : EndId). taken_over c e) (λ (g : Given N O I). g.end) gs)
          ∙ ap (λ (es : List EndId). map (λ (e : EndId). taken_over c e) es) ends_are;
      writers = subst (λ (xs : List (Given N O I)). All (λ (g : Given N O I). is_some g.out ≡ has_writer (place_of c g.end)) xs) (sym ends)
          (All-map (λ (g : Given N O I). is_some g.out ≡ has_writer (place_of c g.end)) (noted_end c) gs (λ k g lt. writing k g lt ∙ has.writes _ (given_here k g lt)));
      states = subst (λ (xs : List (Given N O I)). All (λ (g : Given N O I). place_of c g.end ≡ At g.state) xs) (sym ends)
          (All-map (λ (g : Given N O I). place_of c g.end ≡ At g.state) (noted_end c) gs (λ k g lt. has.states _ (given_here k g lt) ∙ ap At (sym (stated k g lt))));
    }

    -- an end whose delimiter was noted has met it
    pub given_halves : {P : Type 0} (K : Known P O I N) (pipes : P) → AllTold h.at_delimiter gs → AreGivenWith K pipes gs → AreGivenWith K pipes p.ends.items
    given_halves K pipes told given =
        subst (λ (xs : List (Given N O I)). AreGivenWith K pipes xs) (sym ends)
        (All-map (IsGivenWith K pipes) (noted_end c) gs (λ k g lt.
        let is = given k g lt in
        record {
          read_there = is.read_there;
          met = λ noted. is.met (told k g lt ∙ has.delimiters _ (given_here k g lt) noted);
          out_is = is.out_is;
          written_there = is.written_there;
          unsealed = is.unsealed;
        }))

    -- each was told to be sealed still, of those that are
    pub given_sealed : (told : List EndId) → AllSealed told gs → AllSealed told p.ends.items
    given_sealed told all =
        subst (λ (xs : List (Given N O I)). AllSealed told xs) (sym ends)
        (All-map (λ (g : Given N O I). g.sealed ≡ true → list_any (is_end g.end) told ≡ true) (noted_end c) gs (λ k g lt. all k g lt))

-- ---- what it has then
module _ {N : Type 0} (names : EndId → Option N) (c : Control) (o : ℕ) (h k : Holding N) (gone : HasGiven o h k) (keeps : KeepsTurns h k) (has : HasAll names c h) where
  pub given_has : HasAll names c k
  given_has i holds = by (cases_eq i o)
    where
      theirs : i ≢ o → HasEnds names c.rows.pairs c.attached c.reasons k i
      theirs other =
          let was = has i (sym (gone.others i other).0 ∙ holds) in
          let same = (gone.others i other).1.0 in
          record {
            ends = ap (λ (hs : List (Held N)). map (λ x. x.end) hs) same ∙ was.ends;
            named = subst (λ (hs : List (Held N)). All (HasBothNames names) hs) (sym same) was.named;
            writes = λ e here. gone.writers i e here ∙ was.writes e (sym (ap (has_end e) same) ∙ here);
            delimiters = λ e here met. gone.delimiters i e here (was.delimiters e (sym (ap (has_end e) same) ∙ here) met);
            states = λ e here. was.states e (sym (ap (has_end e) same) ∙ here) ∙ ap At (sym (keeps.states i e here));
          }

      by : (i ≡ o) ⊎ (i ≡ o → ⊥) → HasEnds names c.rows.pairs c.attached c.reasons k i
      by (inl same) = absurd (never (sym gone.gone ∙ ap k.holds (sym same) ∙ holds))
      by (inr other) = theirs other
