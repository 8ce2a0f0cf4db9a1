use Rattle.std.proofs.Common.{◌∙◌, ◌++◌, ◌∷◌, [], false, refl, sym, ap}
use Rattle.std.proofs.lemmas.List.{append-nil}
use Rattle.zq_base.specs.declared.attached.Attached.TheVariants.{Yes}
use Rattle.zq_base.specs.declared.ids.EndId.{EndId}
use Rattle.spec_control.specs.declared.entry.Joining.{Joining}
use Rattle.desk.specs.declared.given.Given.{Given}
use Rattle.end_table.specs.declared.table.Place.{Place}
use Rattle.end_table.proofs.SoundLemmas.{one_some}
use Rattle.sock_core.specs.Standing.{standing_joins}
use Rattle.closed_ends.specs.Ending.{halves_of}
use Rattle.closed_ends.specs.Finding.{place_given}
use Rattle.closed_ends.proofs.JoinLemmas.{joins_at}
use Rattle.closed_ends.proofs.sockets.join.Goals as goal

pub returns-in-Ok-clause-ok : goal.returns-in-Ok-clause-ok
returns-in-Ok-clause-ok g c =
    let K = g.P.Pipes.known in
    let x = c.index_mut.result.now in
    record {
      sockets = joins_at c.args.number.0 c.args.socket c.args.closed.now.sockets.items c.requires.its x c.index_mut.ensures.value (_ ∷ []) (record { number = x.number; ends = c.put_end.new.ends }) refl
          (c.in-Ok.ensures.ok ∙ ap (λ (y : Given _ _ _). x.ends.items ++ y ∷ []) c.joined-given.ensures);
      came = c.and-closed.ensures ∙ ap (λ (y : Place _ _). c.args.closed.now.came.items ++ (y, tt) ∷ []) (c.noted_as-noted.ensures ∙ ap (place_given K.in_name) c.joined-given.ensures);
      joins =
          c.note_join.ensures
          ∙ ap (λ (e : EndId). let y : Joining _ = record { end = e; peer = c.args.identity.now; written = c.joint_of-joint.result.written; read = c.joint_of-joint.result.read; answer = Yes; met = false } in standing_joins c.args.closed.now.joins.items ++ y ∷ []) c.joint_of-joint.ensures.end
          ∙ ap (λ n. let y : Joining _ = record { end = c.args.end; peer = c.args.identity.now; written = n; read = c.joint_of-joint.result.read; answer = Yes; met = false } in standing_joins c.args.closed.now.joins.items ++ y ∷ []) c.joint_of-joint.ensures.written
          ∙ ap (λ n. let y : Joining _ = record { end = c.args.end; peer = c.args.identity.now; written = K.out_name c.args.halves.out; read = n; answer = Yes; met = false } in standing_joins c.args.closed.now.joins.items ++ y ∷ []) c.joint_of-joint.ensures.read;
    }

pub returns-in-Some-clause-err : goal.returns-in-Some-clause-err
returns-in-Some-clause-err g c =
    let x = c.index_mut.result.now in (
      one_some c.in-Some.halves c.args.halves (sym c.in-Some.is ∙ c.halves_of.ensures ∙ ap halves_of (c.in-Err.ensures.err.0 ∙ c.joined-given.ensures)),
      record {
        sockets = joins_at c.args.number.0 c.args.socket c.args.closed.now.sockets.items c.requires.its x c.index_mut.ensures.value [] (record { number = x.number; ends = c.put_end.new.ends }) refl
            (c.in-Err.ensures.err.1 ∙ sym (append-nil x.ends.items));
        came = refl;
        joins = refl;
      },
    )
