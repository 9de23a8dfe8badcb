-- `look_bytes::answer` meets its contract: the line of the version, n and m that look answers, or of its refusal. Assumes nothing.
use Rattle.std.proofs.Common.{◌≡◌, refl, [], arith}
use Rattle.table.proofs.VerdictLaws.{accepts}
use Rattle.layout.specs.Image.{version_of, vertices_of, edges_of}
use Rattle.image.specs.Looking.{image_demands}
use Rattle.image.proofs.LookLaws.{looked_met, looked_says}
use Rattle.texts.specs.Text.{text, sizes_line, look_lines}
use Rattle.texts.proofs.LineLaws.{sizes_line_most}
use Rattle.printing.proofs.PutLaws.{put_nothing, put_text, at_front, front_counts}
use Rattle.printing.proofs.AnsweredLaws.{text_answers}
use Rattle.look_bytes.proofs.answer.Goals as goal

pub sizes-requires : goal.sizes-requires
sizes-requires c =
    let says = looked_says c.in-Ok.ensures refl in
    omega (arith, sizes_line_most c.in-Ok.sizes.version _ _ says.sized.few_vertices says.sized.few_edges)

pub returns-in-Ok-clause-look_answer : goal.returns-in-Ok-clause-look_answer
returns-in-Ok-clause-look_answer c =
    let sizes = c.in-Ok.sizes in
    let image = c.args.image.now in
    let says = looked_says c.in-Ok.ensures refl in
    let at = at_front (put_text [] (sizes_line sizes.version sizes.vertices sizes.edges) put_nothing c.sizes.ensures) in
    let spelled : text (look_lines sizes.version sizes.vertices sizes.edges) ≡ text (look_lines (version_of image) (vertices_of image) (edges_of image))
    = λ i. text (look_lines (says.version i) (says.vertices i) (says.edges i)) in
    text_answers refl (accepts (image_demands image) (looked_met c.in-Ok.ensures refl)) spelled at

pub returns-in-Ok-clause-prefix_len : goal.returns-in-Ok-clause-prefix_len
returns-in-Ok-clause-prefix_len c =
    let sizes = c.in-Ok.sizes in
    front_counts (at_front (put_text [] (sizes_line sizes.version sizes.vertices sizes.edges) put_nothing c.sizes.ensures))
