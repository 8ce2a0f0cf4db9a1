-- How ends came, after one more call.
use Rattle.std.proofs.Common.{◌≡◌, ◌∙◌, ℕ, List, [], ◌∷◌, ◌++◌, map, refl, sym, ap, subst}
use Rattle.std.specs.Prelude.{flat_map}
use Rattle.std.specs.List.{AllByRecursion}
use Rattle.std.proofs.lemmas.List.{append-nil}
use Rattle.std.proofs.lemmas.Grind.{flat_map-append}
use Rattle.zq_base.specs.declared.ids.ObjId.{ObjId}
use Rattle.spec_control.specs.declared.entry.Joining.{Joining}
use Rattle.end_table.specs.declared.table.Place.{Place}
use Rattle.msg_pipe.specs.Known.{Known}
use Rattle.desk.specs.declared.given.Given.{Given}
use Rattle.sock_core.specs.Standing.{standing_joins}
use Rattle.closed_ends.specs.declared.sockets.ClosedSockets.{ClosedSockets}
use Rattle.closed_ends.specs.Finding.{came_given}
use Rattle.closed_ends.specs.Coming.{Way, ends_by, joins_by, sockets_by, IsWay, HasCome}
use Rattle.closed_ends.proofs.ListLemmas.{mapped, same_ends}
use Rattle.closed_ends.proofs.NotedLemmas.{rec_more}

module _ {S O I N : Type 0} (K : Known S O I N) (brings : ℕ → Given N O I → Type 0) (from : ClosedSockets N O I) where
  pub come_none : (c : ClosedSockets N O I) → from ≡ c → HasCome K brings from c
  come_none c same = subst (HasCome K brings from) same (record {
    ways = [];
    fit = tt;
    came = sym (append-nil from.came.items);
    joins = sym (append-nil (standing_joins from.joins.items));
    sockets = sym (append-nil (map (λ s. s.number) from.sockets.items));
  })

  -- none came
  pub come_still : (c d : ClosedSockets N O I) → d.came.items ≡ c.came.items → standing_joins d.joins.items ≡ standing_joins c.joins.items → map (λ s. s.number) d.sockets.items ≡ map (λ s. s.number) c.sockets.items → HasCome K brings from c → HasCome K brings from d
  come_still c d came joins sockets h = record { ways = h.ways; fit = h.fit; came = came ∙ h.came; joins = joins ∙ h.joins; sockets = sockets ∙ h.sockets }

  -- some did
  pub come_more : (c d : ClosedSockets N O I) (w : Way N O I) → IsWay K brings w → d.came.items ≡ c.came.items ++ map (came_given K.in_name) (ends_by w) → standing_joins d.joins.items ≡ standing_joins c.joins.items ++ joins_by w
      → map (λ s. s.number) d.sockets.items ≡ map (λ s. s.number) c.sockets.items ++ sockets_by w → HasCome K brings from c → HasCome K brings from d
  come_more c d w is came joins sockets h = record {
    ways = h.ways ++ w ∷ [];
    fit = rec_more (IsWay K brings) h.ways w h.fit is;
    came =
        came ∙ ap (λ (l : List (Place N I × Unit {0})). l ++ map (came_given K.in_name) (ends_by w)) h.came
        ∙ same_ends from.came.items (map (came_given K.in_name) (flat_map ends_by h.ways)) (map (came_given K.in_name) (ends_by w))
        ∙ ap (λ (l : List (Place N I × Unit {0})). from.came.items ++ l)
        (sym (mapped (came_given K.in_name) (flat_map ends_by h.ways) (ends_by w)) ∙ ap (map (came_given K.in_name)) (sym (last ends_by)));
    joins =
        joins ∙ ap (λ (l : List (Joining N)). l ++ joins_by w) h.joins ∙ same_ends (standing_joins from.joins.items) (flat_map joins_by h.ways) (joins_by w)
        ∙ ap (λ (l : List (Joining N)). standing_joins from.joins.items ++ l) (sym (last joins_by));
    sockets =
        sockets ∙ ap (λ (l : List ObjId). l ++ sockets_by w) h.sockets ∙ same_ends (map (λ s. s.number) from.sockets.items) (flat_map sockets_by h.ways) (sockets_by w)
        ∙ ap (λ (l : List ObjId). map (λ s. s.number) from.sockets.items ++ l) (sym (last sockets_by));
  }
    where
      last : {X : Type 0} (f : Way N O I → List X) → flat_map f (h.ways ++ w ∷ []) ≡ flat_map f h.ways ++ f w
      last f = flat_map-append f h.ways (w ∷ []) ∙ ap (λ l. flat_map f h.ways ++ l) (append-nil (f w))
