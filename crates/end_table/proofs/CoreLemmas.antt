-- What a core needs beside: ends of other owners stay held, and the steps past stay those of the pipes where one is made and where one is settled.
use Rattle.std.proofs.Common.{◌≡◌, ⊎_elim, ℕ, List, [], ◌∷◌, Bool, true, false, Option, Some, None, sym, ap, ◌∙◌, subst}
use Rattle.zq_base.specs.Ends.{PipeId}
use Rattle.spec_pattern.specs.PipeStep.{PipeStep, same_pipe, committed_to, taken_from, sealed_in}
use Rattle.spec_pattern.specs.Half.{Writing, Reading}
use Rattle.spec_pattern.proofs.Exact.{same_pipes}
use Rattle.msg_pipe.specs.Known.{Known, IsThere, KeepsAll, MakesPipe}
use Rattle.end_table.specs.declared.row.EndRow.{EndRow}
use Rattle.end_table.specs.Rows.{Rows, Table, table, row_at}
use Rattle.end_table.specs.Held.{IsHeld}
use Rattle.end_table.specs.Runs.{OutCall, InCall, DoesOne, DoesAll}
use Rattle.end_table.specs.Laws.{IsOutElse}
use Rattle.end_table.specs.Past.{OneName, Stands, IsPast}
use Rattle.end_table.proofs.RowLemmas.{some_same}
use Rattle.end_table.proofs.HeldLemmas.{out_same, in_same, was}

module _ {S O I N : Type 0} (K : Known S O I N) where
  one_there : (old : Table S O I) (s : PipeStep) (new : Table S O I) → DoesOne K old s new → (n : N) → IsThere K old.pipes n → IsThere K new.pipes n
  one_there old s new one n there = ⊎_elim (λ (c : OutCall K old s new). c.keeps.there n there) (λ (c : InCall K old s new). c.keeps.there n there) one

  one_frame : (old : Table S O I) (s : PipeStep) (new : Table S O I) → DoesOne K old s new → (o : O) → IsThere K old.pipes (K.out_name o) → IsOutElse K old.rows o
      → (K.writing new.pipes o ≡ K.writing old.pipes o) × IsOutElse K new.rows o
  one_frame old s new one o there other = ⊎_elim
      (λ (c : OutCall K old s new). (
        c.keeps.outs o there (other c.place c.row c.at.here),
        λ k r is exact same.
            let q = was K old new c.place c.row c.back c.at (out_same K old s new c) k r is in other k q.0 q.1 exact (same ∙ q.2.out_is),
      ))
      (λ (c : InCall K old s new). (
        c.keeps.outs o there,
        λ k r is exact same.
            let q = was K old new c.place c.row c.back c.at (in_same K old s new c) k r is in other k q.0 q.1 exact (same ∙ q.2.out_is),
      ))
      one

  -- calls at the ends of a socket leave what other writing halves know
  pub frame : (old : Table S O I) (steps : List PipeStep) (new : Table S O I) → DoesAll K old steps new → (o : O) → IsThere K old.pipes (K.out_name o) → IsOutElse K old.rows o
      → (K.writing new.pipes o ≡ K.writing old.pipes o) × IsThere K new.pipes (K.out_name o)
  frame old [] new all o there other = (ap (λ (t : Table S O I). K.writing t.pipes o) all, subst (λ (t : Table S O I). IsThere K t.pipes (K.out_name o)) (sym all) there)
  frame old (s ∷ ss) new all o there other =
      let one = one_frame old s all.0 all.1 o there other in
      let rest = frame all.0 ss new all.2 o (one_there old s all.0 all.1 (K.out_name o) there) one.1 in
      (rest.0 ∙ one.0, rest.1)

  all_there : (old : Table S O I) (steps : List PipeStep) (new : Table S O I) → DoesAll K old steps new → (n : N) → IsThere K old.pipes n → IsThere K new.pipes n
  all_there old [] new all n there = subst (λ (t : Table S O I). IsThere K t.pipes n) (sym all) there
  all_there old (s ∷ ss) new all n there = all_there all.0 ss new all.2 n (one_there old s all.0 all.1 n there)

  -- the ends of another socket stay held
  pub others_hold : (old : Table S O I) (steps : List PipeStep) (new : Table S O I) (rows : Rows O I) → DoesAll K old steps new
      → ((k : ℕ) (row : EndRow O I) → row_at rows k ≡ Some row → IsOutElse K old.rows row.out)
      → IsHeld K (table old.pipes rows) → IsHeld K (table new.pipes rows)
  others_hold old steps new rows all other held = record {
    each = λ k row is. let each = held.each k row is in record {
      out = all_there old steps new all (K.out_name row.out) each.out;
      input = all_there old steps new all (K.in_name row.input) each.input;
      unsealed = λ w. ap (λ (x : Writing). x.sealed) (frame old steps new all row.out each.out (other k row is)).0 ∙ each.unsealed w;
    };
    two = held.two;
  }

none_some : {A : Type 0} (x : Option A) (a : A) → x ≡ None → x ≡ Some a → ⊥
none_some x a e f = cc

module _ {S O I N : Type 0} (K : Known S O I N) (is_exact : K.exact ≡ true) (goes goes' : PipeId → Option N) (capacity : PipeId → ℕ) (q : PipeId)
    (others : (p : PipeId) → same_pipe p q ≡ false → goes' p ≡ goes p) (old new : S) (past : List PipeStep) (one_name : OneName goes) (is : IsPast K goes capacity old past) where
  -- a pipe is made, of which no step is past
  module _ (o : O) (i : I) (goes_is : goes' q ≡ Some (K.out_name o)) (made : MakesPipe K (capacity q) o i old new) (keeps : KeepsAll K old new)
      (none_in : committed_to q past ≡ []) (none_out : taken_from q past ≡ []) (open_is : sealed_in q past ≡ false) where
    made_stands : (p : PipeId) (n : N) (b : Bool) → same_pipe p q ≡ b → goes' p ≡ Some n → Stands K goes' capacity new past p n
    made_stands p n true e g =
        let here : p ≡ q = same_pipes p q e in
        let name : K.out_name o ≡ n = some_same (K.out_name o) n (sym goes_is ∙ ap goes' (sym here) ∙ g) in
        record {
          out = o;
          input = i;
          out_is = name;
          in_is = made.one_name ∙ name;
          there = subst (IsThere K new) name made.there;
          committed = ap (λ (w : Writing). w.committed) made.writing_is ∙ sym none_in ∙ ap (λ (r : PipeId). committed_to r past) (sym here);
          taken = ap (λ (r : Reading). r.taken) made.reading_is ∙ sym none_out ∙ ap (λ (r : PipeId). taken_from r past) (sym here);
          capacity_is = ap (λ (w : Writing). w.capacity) made.writing_is ∙ ap capacity (sym here);
          sealed_is = ap (λ (w : Writing). w.sealed) made.writing_is ∙ sym open_is ∙ ap (λ (r : PipeId). sealed_in r past) (sym here);
        }
    made_stands p n false e g =
        let was = is.stands p n (sym (others p e) ∙ g) in
        let w = keeps.outs was.out (subst (IsThere K old) (sym was.out_is) was.there) in
        let r = keeps.ins was.input (subst (IsThere K old) (sym was.in_is) was.there) in
        record {
          out = was.out;
          input = was.input;
          out_is = was.out_is;
          in_is = was.in_is;
          there = keeps.there n was.there;
          committed = ap (λ (x : Writing). x.committed) w ∙ was.committed;
          taken = ap (λ (x : Reading). x.taken) r ∙ was.taken;
          capacity_is = ap (λ (x : Writing). x.capacity) w ∙ was.capacity_is;
          sealed_is = ap (λ (x : Writing). x.sealed) w ∙ was.sealed_is;
        }

    -- its name is a further one
    is_new : (p : PipeId) (n : N) → same_pipe p q ≡ false → goes' p ≡ Some n → goes' q ≡ Some n → ⊥
    is_new p n e g h =
        let name : n ≡ K.out_name o = some_same n (K.out_name o) (sym h ∙ goes_is) in
        made.is_new is_exact (subst (IsThere K old) name (is.stands p n (sym (others p e) ∙ g)).there)
