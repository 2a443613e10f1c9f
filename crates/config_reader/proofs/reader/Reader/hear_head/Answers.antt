use Rattle.std.proofs.Common.{◌≡◌, ◌∙◌, ap, true, false, Some}
use Rattle.std.proofs.lemmas.Result.{on_ok_weaker}
use Rattle.text_lines.specs.Lines.{words}
use Rattle.std.specs.Option.{option_map}
use Rattle.config_reader.specs.Heards.{head_heard}
use Rattle.config_reader.specs.Spoken.{statement_of}
use Rattle.config_reader.proofs.HeadKept.{HasHead, HasName, heads_with, head_without, name_kept, head_kept}
use Rattle.config_reader.proofs.reader.Reader.hear_head.Goals.{in-Interface+in_ok-push, in_default, then-begins, else-begins}
use Rattle.config_reader.proofs.reader.Reader.hear_head.Goals as goal

pub returns : goal.returns
returns c =
    let ws = words c.args.text.now in
    let block = c.block_of-block.result in
    let middle = c.match-block.self-inside in
    let last = c.if-begins.self-inside in
    let head : HasHead c.args.number block c.self.inside middle = elim c.match-block.branch [
      | in-Interface+in_ok-push w ↦ record {
        heads = heads_with c.args.number block w.in-Interface.name c.self.inside.heads.items middle.heads.items w.in-Interface.is
            (ap (λ i. i.heads.items) w.self-inside-is ∙ w.in_ok-push.ensures.items);
        said = ap (λ i. i.said) w.self-inside-is;
        hostname = ap (λ i. i.hostname) w.self-inside-is;
        fault = ap (λ i. i.fault) w.self-inside-is;
      }
      | in_default w ↦ head_without c.args.number block c.self.inside middle w.in_default.not-Interface w.self-inside-is
    ] in
    let name : HasName c.args.number ws middle last = elim c.if-begins.branch [
      | then-begins v ↦ record {
        hostname = ap (λ i. option_map head_heard i.hostname) v.self-inside-is
            ∙ ap (λ w. Some (w, c.args.number)) v.word.ensures
            ∙ name_kept c.args.number ws true (option_map head_heard middle.hostname) v.if-begins.ensures;
        said = ap (λ i. i.said) v.self-inside-is;
        heads = ap (λ i. i.heads) v.self-inside-is;
        fault = ap (λ i. i.fault) v.self-inside-is;
      }
      | else-begins v ↦ record {
        hostname = ap (λ i. option_map head_heard i.hostname) v.self-inside-is
            ∙ name_kept c.args.number ws false (option_map head_heard middle.hostname) v.if-begins.ensures;
        said = ap (λ i. i.said) v.self-inside-is;
        heads = ap (λ i. i.heads) v.self-inside-is;
        fault = ap (λ i. i.fault) v.self-inside-is;
      }
    ] in
    on_ok_weaker c.hear_statement.result
    (λ (kept : c.hear_statement.new.self ≡ _). kept ∙ head_kept c.args.number ws block (statement_of c.head_statement.result) c.self.inside middle last
    c.args.self.now c.block_of-block.ensures c.head_statement.ensures head name c.self.view_is) c.hear_statement.ensures
