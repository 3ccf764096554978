use Rattle.std.proofs.Common.{◌∙◌, subst}
use Rattle.ng_inputs.specs.Files.{Brings, too_long, bytes}
use Rattle.ng_inputs.specs.InputsOf.{file_of, inputs_of, got_of}
use Rattle.ng_inputs.proofs.Fetching.{came, ran_over}
use Rattle.ng_inputs.proofs.files.fetch_all.Goals as goal

pub loop-file-preserved : goal.loop-file-preserved
loop-file-preserved g c =
    let before = c.loop-file.invariant in
    let name = c.file-item.result.name.now in
    let told = g.S.Shelf.bytes c.args.shelf.now in
    let brings = subst (λ o. Brings o (bytes c.in-Bytes.bytes.items)) (before.told name) (subst (λ x. Brings (g.S.Shelf.bytes c.loop-file.shelf name) (got_of x)) c.in-Bytes.is c.in_ok-fetch.ensures.brings) in
    record {
      told = λ n. c.in_ok-fetch.ensures.same n ∙ before.told n;
      failures = c.in_ok-fetch.ensures.other (λ e. cc) ∙ before.failures;
      rest = λ now end h. before.rest now end
          (came file_of told c.args.files.now c.loop-file.file-index c.file-item.result c.loop-file-test.true c.file-item.is (inputs_of c.loop-file.inputs) (inputs_of c.with-inputs.result) c.in-Bytes.bytes.items (g.S.Shelf.failed c.args.shelf.now) now end
          brings c.with-inputs.ensures h);
    }

pub returns-in-TooLong : goal.returns-in-TooLong
returns-in-TooLong g c =
    let before = c.loop-file.invariant in
    let name = c.file-item.result.name.now in
    let told = g.S.Shelf.bytes c.args.shelf.now in
    let brings = subst (λ o. Brings o (too_long c.in-TooLong.length)) (before.told name) (subst (λ x. Brings (g.S.Shelf.bytes c.loop-file.shelf name) (got_of x)) c.in-TooLong.is c.in_ok-fetch.ensures.brings) in
    before.rest _ _
    (ran_over file_of told c.args.files.now c.loop-file.file-index c.file-item.result c.loop-file-test.true c.file-item.is (inputs_of c.loop-file.inputs) c.in-TooLong.length (g.S.Shelf.failed c.args.shelf.now) (g.S.Shelf.failed c.fetch.new.shelf)
    brings (c.in_ok-fetch.ensures.other (λ e. cc) ∙ before.failures))
