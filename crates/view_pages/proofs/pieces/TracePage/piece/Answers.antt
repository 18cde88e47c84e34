use Rattle.std.proofs.Common.{◌≡◌, ◌<◌, ◌≤◌, ◌++◌, ◌∙◌, ap, drop, length, string_bytes, subst, sym}
use Rattle.view_pages.specs.Html.{html_bytes, ◌▹◌}
use Rattle.view_pages.specs.Pages.{end_html, head_html}
use Rattle.view_pages.specs.Pieces.{line_html, lines_html, page_html}
use Rattle.view_pages.proofs.Planned.{after_head, after_rows, head_some}
use Rattle.view_pages.proofs.Stages.{after_end}
use Rattle.view_pages.proofs.pieces.TracePage.piece.Goals as goal

pub returns-in_ok-push_head-in-Head-clause-left : goal.returns-in_ok-push_head-in-Head-clause-left
returns-in_ok-push_head-in-Head-clause-left g c =
    let page = c.args.self.now in
    let count = length c.spans-spans.result.now in
    after_head (head_html page.trace (length page.rows.spans.items) page.rows.frame)
    (lines_html page.rows.spans.items page.rows.frame page.rows.lines.items ▹ end_html)
    (string_bytes c.push_head.new.out)
    (c.in_ok-push_head-in-Head.ensures
    ∙ ap (λ l. l ++ html_bytes (head_html page.trace count c.frame-frame.result))
    c.new-text.ensures.bytes
    ∙ ap (λ f. html_bytes (head_html page.trace count f)) c.frame-frame.ensures
    ∙ ap (λ xs. html_bytes (head_html page.trace (length xs) page.rows.frame))
    c.spans-spans.ensures)
    ∙ ap (λ s. html_bytes (page_html page s)) (sym c.in-Head.is)

pub returns-in_ok-push_head-in-Head-clause-more : goal.returns-in_ok-push_head-in-Head-clause-more
returns-in_ok-push_head-in-Head-clause-more g c =
    let page = c.args.self.now in
    let count = length c.spans-spans.result.now in
    λ _. subst (λ l. 0 < length l)
    (sym (c.in_ok-push_head-in-Head.ensures
    ∙ ap (λ l. l ++ html_bytes (head_html page.trace count c.frame-frame.result))
    c.new-text.ensures.bytes))
    (head_some page.trace count c.frame-frame.result)

pub returns-in_ok-next-in-Rows-clause-left : goal.returns-in_ok-next-in-Rows-clause-left
returns-in_ok-next-in-Rows-clause-left g c =
    let page = c.args.self.now in
    let next = c.in_ok-next-in-Rows.next in
    let at = c.in-Rows.at in
    let text = string_bytes c.push_lines.new.out in
    let owned = c.spans-spans.result.now in
    let kept = c.lines-lines.result.now in
    let time = page.rows.frame in
    after_rows (lines_html page.rows.spans.items time (drop next page.rows.lines.items))
    (lines_html page.rows.spans.items time (drop at page.rows.lines.items)) end_html text
    (subst (λ l. text ++ html_bytes (lines_html page.rows.spans.items time (drop next l))
    ≡ html_bytes (lines_html page.rows.spans.items time (drop at l)))
    c.lines-lines.ensures
    (subst (λ s. text ++ html_bytes (lines_html s time (drop next kept))
    ≡ html_bytes (lines_html s time (drop at kept)))
    c.spans-spans.ensures
    (subst (λ f. text ++ html_bytes (lines_html owned f (drop next kept))
    ≡ html_bytes (lines_html owned f (drop at kept)))
    c.frame-frame.ensures
    (c.in_ok-next-in-Rows.ensures.left
    ∙ ap (λ l. l ++ html_bytes (lines_html owned c.frame-frame.result (drop at kept)))
    c.new-text.ensures.bytes))))
    ∙ ap (λ s. html_bytes (page_html page s)) (sym c.in-Rows.is)

pub returns-in_ok-push_end-in-Rows-2-clause-left : goal.returns-in_ok-push_end-in-Rows-2-clause-left
returns-in_ok-push_end-in-Rows-2-clause-left g c =
    let page = c.args.self.now in
    after_end
    (line_html page.rows.spans.items page.rows.frame) page.rows.lines.items c.in-Rows.at end_html
    (string_bytes c.push_end.new.out)
    (subst (λ l. length l ≤ c.in-Rows.at) c.lines-lines.ensures c.if-at-lines.false)
    (c.in_ok-push_end-in-Rows-2.ensures
    ∙ ap (λ l. l ++ html_bytes end_html) c.new-text.ensures.bytes)
    ∙ ap (λ s. html_bytes (page_html page s)) (sym c.in-Rows.is)
